-- Lemmas for the steps of a handshake over a well-behaved port.
use Rattle.std.proofs.Common.{◌≡◌, ◌∙◌, ◌+◌, ◌<◌, ◌≤◌, ◌≢◌, ◌⊎◌, inl, inr, drop, true, false, ℕ, Bool, List, [], refl, sym, subst, ap, arith}
use Rattle.std.specs.Prelude.{nat_lt, ◌==◌, IfSome, unwrap_or, slice_index, if◌then◌else◌, Option, None, Some, Result, Ok, Err, IsErrAnd, ⊤}
use Rattle.std.specs.Option.{option_or}
use Rattle.nor_model.specs.Chip.{Chip}
use Rattle.nor_model.specs.Power.{PowerLost}
use Rattle.nor_serprog.specs.declared.command.Command.{Command}
use Rattle.nor_serprog.specs.declared.command.Command.TheVariants.{SetBuses, SetFrequency, SetPins}
use Rattle.std.specs.Int.{w16, w32, from_le_bytes}
use Rattle.std.proofs.lemmas.Nat.{from_le_bytes-to_le_bytes_2, from_le_bytes-to_le_bytes_4}
use Rattle.nor_serprog.specs.declared.programmer.HandshakeFault.{HandshakeFault}
use Rattle.nor_serprog.specs.declared.programmer.HandshakeFault.TheVariants as Faults
use Rattle.nor_serprog.specs.declared.link.Failure.TheVariants.{Refused}
use Rattle.nor_serprog.specs.declared.link.Link.{Link}
use Rattle.nor_serprog.specs.Device.{PortState, with_settings}
use Rattle.std.proofs.lemmas.Bool.Decides.{Decides-ltb, Decides-eqb}
use Rattle.nor_serprog.specs.Firmware.{Firmware, ProgrammerSettings, has_command, is_in_map, reply_of, settings_after, taken, clocked, two_of}
use Rattle.nor_serprog.specs.Frame.{frame_of, four_of}
use Rattle.nor_serprog.specs.Link.{is_in_step, is_cut}
use Rattle.nor_serprog.specs.Replies.{AwaitsCommand, OnlyAsks}
use Rattle.nor_serprog.specs.declared.programmer.Programmer.{Programmer}
use Rattle.nor_serprog.specs.declared.programmer.AnyProgrammer.{AnyProgrammer}
use Rattle.nor_serprog.specs.declared.programmer.Least.{Least}
use Rattle.nor_serprog.specs.Identify.{Concludes, Asked, IsInStepWith, refused, clock_refused, first_handshake_fault, identify_faults, least_fault, IsAnyProgrammerOf, IsProgrammerOf, settings_if_offered, prepared_settings, prepared_port}

pub goes_on : {T T' C : Type 0} {calls : ℕ} {fault fault' : Option (HandshakeFault C)} {IsValue : T → Type 0}
    {IsValue' : T' → Type 0} {value : T} {value' : T'} {old new : PortState}
    → Concludes calls fault IsValue (Ok value) old new → fault' ≡ None → IsValue' value'
    → Concludes calls fault' IsValue' (Ok value') old new
goes_on done usable is = record { usable = usable; value = is; asks = done.asks; fails = tt; power = tt }

pub stops_after : {T T' C : Type 0} {calls : ℕ} {fault fault' : Option (HandshakeFault C)} {IsValue : T → Type 0}
    {IsValue' : T' → Type 0} {value : T} {error : HandshakeFault C} {old new : PortState}
    → Concludes calls fault IsValue (Ok value) old new → fault' ≡ Some error
    → Concludes calls fault' IsValue' (Err error) old new
stops_after done found = record {
  usable = tt;
  value = tt;
  asks = tt;
  fails = inl found;
  power = record { chip = inl done.asks.chip; worn = λ s. ap (λ (w : ℕ → Bool). w s) done.asks.worn };
}

pub fails_as : {T T' C : Type 0} {calls : ℕ} {fault fault' : Option (HandshakeFault C)} {IsValue : T → Type 0}
    {IsValue' : T' → Type 0} {error : HandshakeFault C} {old new : PortState} (settings : ProgrammerSettings)
    → Concludes calls fault IsValue (Err error) old new → (fault ≡ Some error → fault' ≡ Some error)
    → Concludes calls fault' IsValue' (Err error) (with_settings settings old) new
fails_as settings failed same = record {
  usable = tt;
  value = tt;
  asks = tt;
  fails = elim failed.fails [ inl found ↦ inl (same found) | inr few ↦ inr few ];
  power = record { chip = failed.power.chip; worn = failed.power.worn };
}

pub returns_error : {T C : Type 0} {calls : ℕ} {fault : Option (HandshakeFault C)} {IsValue : T → Type 0}
    {error : HandshakeFault C} {old new : PortState} (result : Result T (HandshakeFault C))
    → IsErrAnd result (λ found. found ≡ error) → Concludes calls fault IsValue (Err error) old new
    → Concludes calls fault IsValue result old new
returns_error (Ok value) is concludes = absurd is
returns_error (Err found) is concludes = rw is concludes

pub port_failed : {T T' C : Type 0} {calls : ℕ} {fault : Option (HandshakeFault C)} {IsValue : T → Type 0}
    {IsValue' : T' → Type 0} {error : HandshakeFault C} {old new : PortState} (result : Result T' (HandshakeFault C))
    → IsErrAnd result (λ found. found ≡ error) → Concludes calls None IsValue (Err error) old new
    → Concludes calls fault IsValue' result old new
port_failed {old = old} result is failed =
    returns_error result is
    (fails_as old.device.settings failed (λ found. let never : ⊥ = cc in absurd never))

pub concludes_as : {T C : Type 0} {calls : ℕ} {fault fault' : Option (HandshakeFault C)} {IsValue IsValue' : T → Type 0}
    {old new : PortState} (result : Result T (HandshakeFault C)) → fault' ≡ fault
    → ((value : T) → IsValue value → IsValue' value) → Concludes calls fault IsValue result old new
    → Concludes calls fault' IsValue' result old new
concludes_as (Ok value) same weaker c = goes_on c (same ∙ c.usable) (weaker value c.value)
concludes_as {old = old} (Err error) same weaker c = fails_as old.device.settings c (λ found. same ∙ found)

pub offered : (firmware : Firmware) (commands : List ℕ) (opcode : ℕ) (found value : Bool)
    → found ≡ is_in_map commands opcode → commands ≡ firmware.commands → found ≡ value → has_command firmware opcode ≡ value
offered firmware commands opcode found value is same known =
    sym (ap (λ (m : List ℕ). is_in_map m opcode) same) ∙ sym is ∙ known

pub lacks_query : (has_it : Bool) (bytes : List ℕ) (reply : Option (List ℕ)) → reply ≡ None
    → reply ≡ (if has_it then Some bytes else None) → has_it ≡ false
lacks_query true bytes reply none is = let e : None ≡ Some bytes = sym none ∙ is in let never : ⊥ = cc in absurd never
lacks_query false bytes reply none is = refl

pub record Replied (has_it : Bool) (bytes reply : List ℕ) : Type 0 where
  pub has_query : has_it ≡ true
  pub bytes_are : reply ≡ bytes

pub replied : (has_it : Bool) (bytes bytes' : List ℕ) (reply : Option (List ℕ)) → reply ≡ Some bytes'
    → reply ≡ (if has_it then Some bytes else None) → Replied has_it bytes bytes'
replied true bytes bytes' reply some is =
    let e : Some bytes' ≡ Some bytes = sym some ∙ is in record { has_query = refl; bytes_are = cc }
replied false bytes bytes' reply some is =
    let e : Some bytes' ≡ None = sym some ∙ is in let never : ⊥ = cc in absurd never

not_true : (test : Bool) → (test ≡ true → ⊥) → test ≡ false
not_true true never = absurd (never refl)
not_true false never = refl

pub unequal : (m n : ℕ) → m ≢ n → (m == n) ≡ false
unequal m n differ = not_true (m == n) (λ same. differ ((Decides-eqb m n).0 same))

pub below : (m n : ℕ) → m < n → nat_lt m n ≡ true
below m n less = (Decides-ltb m n).1 less

pub not_below : (m n : ℕ) → n ≤ m → nat_lt m n ≡ false
not_below m n more = not_true (nat_lt m n) (λ is. let less = (Decides-ltb m n).0 is in omega (arith, more))

pub two_read : (n value : ℕ) (reply : List ℕ) → value ≡ from_le_bytes w16 reply → reply ≡ two_of n → n < 65536
    → value ≡ n
two_read n value reply is same fits =
    is ∙ ap (λ (l : List ℕ). from_le_bytes w16 l) same ∙ from_le_bytes-to_le_bytes_2 n fits

pub or_default : (has_it : Bool) (bytes default : List ℕ)
    → unwrap_or (if has_it then Some bytes else None) default ≡ (if has_it then bytes else default)
or_default true bytes default = refl
or_default false bytes default = refl

pub clock_err : {C : Type 0} (firmware : Firmware) (hertz : ℕ) (reply : List ℕ) (error : HandshakeFault C)
    (old new : PortState) (set : Option ℕ) (IsValue : Option ℕ → Type 0) → firmware.clock hertz ≡ set
    → Asked firmware (SetFrequency hertz) 4 reply (Err error) old new
    → Concludes 3 (clock_refused (firmware.clock hertz)) IsValue (Err error) old new
clock_err firmware hertz reply error old new (Some set) IsValue e a =
    fails_as old.device.settings (a.acked (four_of set) (ap clocked e) refl) (λ found. let never : ⊥ = cc in absurd never)
clock_err firmware hertz reply error old new None IsValue e a =
    fails_as old.device.settings (a.naked (ap clocked e)) (λ found. ap (λ (o : Option ℕ). clock_refused o) e ∙ found)

pub clock_ok : {C : Type 0} (firmware : Firmware) (hertz n : ℕ) (reply : List ℕ) (old new : PortState)
    (set : Option ℕ) → firmware.clock hertz ≡ set → n ≡ from_le_bytes w32 reply
    → Asked {C = C} firmware (SetFrequency hertz) 4 reply (Ok tt) old new
    → Concludes {C = C} 3 (clock_refused (firmware.clock hertz)) (λ o. o ≡ firmware.clock hertz) (Ok (Some n)) old new
clock_ok firmware hertz n reply old new (Some set) e is a =
    let done = a.acked (four_of set) (ap clocked e) refl in
    let fits : set < 4294967296 = subst (λ (o : Option ℕ). IfSome o (λ s. s < 4294967296)) e (firmware.clock_fits hertz) in
    goes_on done (ap (λ (o : Option ℕ). clock_refused o) e)
    (ap (λ (m : ℕ). Some m)
    (is ∙ ap (λ (l : List ℕ). from_le_bytes w32 l) done.value ∙ from_le_bytes-to_le_bytes_4 set fits)
    ∙ sym e)
clock_ok firmware hertz n reply old new None e is a = absurd (a.naked (ap clocked e)).value

pub set_result : {C : Type 0} (accepts : Bool) (firmware : Firmware) (setting : Command) (reply : List ℕ)
    (opcode : ℕ) (result : Result Unit (HandshakeFault C)) (old new : PortState)
    → reply_of firmware setting ≡ taken accepts → slice_index (frame_of setting) 0 ≡ opcode
    → Asked firmware setting 0 reply result old new
    → Concludes 3 (refused opcode true accepts) (λ _. ⊤) result
    (with_settings (settings_after firmware setting old.device.settings) old) new
set_result true firmware setting reply opcode result old new replies first a =
    concludes_as result refl (λ value is. tt) (a.acked [] replies refl)
set_result false firmware setting reply opcode (Ok value) old new replies first a = absurd (a.naked replies).value
set_result false firmware setting reply opcode (Err error) old new replies first a =
    fails_as _ (a.naked replies) (λ found. ap (λ (n : ℕ). Some (Faults.Failure (Refused n))) (sym first) ∙ found)

bus_selected : {C : Type 0} (has_it takes : Bool) (settings : ProgrammerSettings)
    → refused {C = C} 0x12 has_it takes ≡ None
    → (if has_it then (if takes then record settings { bus_type = Some 8 } else settings) else settings)
    ≡ record settings { bus_type = if has_it then Some 8 else settings.bus_type }
bus_selected true true settings none = refl
bus_selected true false settings none = let never : ⊥ = cc in absurd never
bus_selected false takes settings none = refl

pins_switched : {C : Type 0} (has_it takes : Bool) (settings : ProgrammerSettings)
    → refused {C = C} 0x15 has_it takes ≡ None
    → (if has_it then (if takes then record settings { pins_on = true } else settings) else settings)
    ≡ record settings { pins_on = if has_it then true else settings.pins_on }
pins_switched true true settings none = refl
pins_switched true false settings none = let never : ⊥ = cc in absurd never
pins_switched false takes settings none = refl

pub is_prepared : {C : Type 0} (firmware : Firmware) (settings : ProgrammerSettings)
    → refused {C = C} 0x12 (has_command firmware 0x12) (firmware.takes_buses 8) ≡ None
    → refused {C = C} 0x15 (has_command firmware 0x15) (firmware.takes_pins true) ≡ None
    → settings_if_offered firmware 0x15 (SetPins true) (settings_if_offered firmware 0x12 (SetBuses 8) settings)
    ≡ prepared_settings firmware settings
is_prepared firmware settings bus pins =
    ap (λ (s : ProgrammerSettings). settings_if_offered firmware 0x15 (SetPins true) s)
    (bus_selected (has_command firmware 0x12) (firmware.takes_buses 8) settings bus)
    ∙ pins_switched (has_command firmware 0x15) (firmware.takes_pins true) _ pins

abbrev pub unchanged : Firmware → ProgrammerSettings → ProgrammerSettings
unchanged firmware settings = settings

abbrev pub after_bus_type : Firmware → ProgrammerSettings → ProgrammerSettings
after_bus_type firmware settings = settings_if_offered firmware 0x12 (SetBuses 8) settings

abbrev pub after_pins : Firmware → ProgrammerSettings → ProgrammerSettings
after_pins firmware settings = settings_if_offered firmware 0x15 (SetPins true) settings

abbrev pub faults_from : {C : Type 0} → Least → (done : ℕ) → Firmware → Option ℕ → Option (HandshakeFault C)
faults_from least done firmware hertz = first_handshake_fault (drop done (identify_faults least firmware hertz))

abbrev pub Starts : {P C : Type 0} → (P → PortState) → Link P C → Type 0
Starts port link = AwaitsCommand (port link.port) × (is_cut link ≡ false)

-- Holds if the steps since the link was `start` made at most `calls` calls, found none of the first `done` errors of
-- `identify_faults`, and changed the settings by `after`.
pub record HasReached {P C : Type 0} (port : P → PortState) (start : Link P C) (hertz : Option ℕ) (least : Least)
    (calls done : ℕ) (after : Firmware → ProgrammerSettings → ProgrammerSettings) (commands : List ℕ) (link : Link P C) : Type 0 where
  pub asks : OnlyAsks calls
      (with_settings (after (port start.port).device.firmware (port start.port).device.settings) (port start.port))
      (port link.port)
  pub ready : IsInStepWith port (port start.port).device.firmware link
  pub is : least_fault {C = C} least (port start.port).device.firmware hertz
      ≡ faults_from least done (port start.port).device.firmware hertz
  pub map : commands ≡ (port start.port).device.firmware.commands

pub begins : {P C T : Type 0} {port : P → PortState} {start : Link P C} {IsValue : T → Type 0} {value : T}
    (hertz : Option ℕ) (least : Least) (link : Link P C)
    → Concludes {C = C} 28 None IsValue (Ok value) (port start.port) (port link.port) → is_in_step link ≡ true
    → HasReached port start hertz least 28 0 unchanged (port start.port).device.firmware.commands link
begins hertz least link done in_step = record {
  asks = done.asks;
  ready = record { in_step = in_step; awaits = done.asks.awaits; same = done.asks.firmware };
  is = refl;
  map = refl;
}

pub goes : {P C T : Type 0} {port : P → PortState} {start link : Link P C} {hertz : Option ℕ} {least : Least}
    {calls done : ℕ}
    {after : Firmware → ProgrammerSettings → ProgrammerSettings} {commands commands' : List ℕ}
    {fault : Option (HandshakeFault C)} {IsValue : T → Type 0} {value : T}
    (sets : Firmware → ProgrammerSettings → ProgrammerSettings) (done' : ℕ) (link' : Link P C)
    → HasReached port start hertz least calls done after commands link
    → Concludes 3 fault IsValue (Ok value)
    (with_settings (sets (port start.port).device.firmware (port link.port).device.settings) (port link.port))
    (port link'.port) → is_in_step link' ≡ true → commands' ≡ (port start.port).device.firmware.commands
    → faults_from least done (port start.port).device.firmware hertz
    ≡ option_or fault (faults_from least done' (port start.port).device.firmware hertz)
    → HasReached port start hertz least (calls + 3) done' (λ firmware settings. sets firmware (after firmware settings)) commands'
    link'
goes {port = port} {start = start} {hertz = hertz} {least = least} sets done' link' reached step in_step map next = record {
  asks = record {
    left = omega (arith, reached.asks.left, step.asks.left);
    awaits = step.asks.awaits;
    chip = step.asks.chip ∙ reached.asks.chip;
    worn = step.asks.worn ∙ reached.asks.worn;
    firmware = step.asks.firmware ∙ reached.asks.firmware;
    settings = step.asks.settings ∙ ap (sets (port start.port).device.firmware) reached.asks.settings;
  };
  ready = record {
    in_step = in_step;
    awaits = step.asks.awaits;
    same = step.asks.firmware ∙ reached.ready.same;
  };
  is = reached.is ∙ next
      ∙ ap (λ (o : Option _). option_or o (faults_from least done' (port start.port).device.firmware hertz)) step.usable;
  map = map;
}

pub fails_at : {P C T T' : Type 0} {port : P → PortState} {start link : Link P C} {hertz : Option ℕ} {least : Least}
    {calls done : ℕ}
    {after : Firmware → ProgrammerSettings → ProgrammerSettings} {commands : List ℕ}
    {fault : Option (HandshakeFault C)} {IsValue : T → Type 0} {IsValue' : T' → Type 0} {error : HandshakeFault C}
    {new : PortState} (sets : Firmware → ProgrammerSettings → ProgrammerSettings) (done' : ℕ)
    → HasReached port start hertz least calls done after commands link
    → Concludes 3 fault IsValue (Err error)
    (with_settings (sets (port start.port).device.firmware (port link.port).device.settings) (port link.port)) new
    → calls ≤ 55
    → faults_from least done (port start.port).device.firmware hertz
    ≡ option_or fault (faults_from least done' (port start.port).device.firmware hertz)
    → Concludes 58 (least_fault least (port start.port).device.firmware hertz) IsValue' (Err error)
    (prepared_port (port start.port)) new
fails_at {port = port} {start = start} {hertz = hertz} {least = least} {new = new} sets done' reached failed within next = record {
  usable = tt;
  value = tt;
  asks = tt;
  fails = elim failed.fails [
    | inl found ↦ inl (reached.is ∙ next
        ∙ ap (λ (o : Option _). option_or o (faults_from least done' (port start.port).device.firmware hertz)) found)
    | inr few ↦ inr (few.0, omega (arith, few.1, reached.asks.left, within))
  ];
  power = record {
    chip = subst (λ (c : Chip). (new.device.chip ≡ c) ⊎ PowerLost c new.device.chip) reached.asks.chip failed.power.chip;
    worn = λ s. failed.power.worn s ∙ ap (λ (w : ℕ → Bool). w s) reached.asks.worn;
  };
}

pub is_whole : {C : Type 0} {fault : Option (HandshakeFault C)} {firmware : Firmware} {hertz : Option ℕ}
    {any : AnyProgrammer} {old new : PortState} (programmer : Programmer)
    → Concludes 58 fault (IsAnyProgrammerOf firmware hertz) (Ok any) old new → programmer.reported ≡ any
    → Concludes 58 fault (IsProgrammerOf firmware hertz) (Ok programmer) old new
is_whole {firmware = firmware} {hertz = hertz} programmer found same =
    let P : AnyProgrammer → Type 0 = λ p. IsAnyProgrammerOf firmware hertz p in
    record {
      usable = found.usable;
      value = subst P (sym same) found.value;
      asks = found.asks;
      fails = tt;
      power = tt;
    }

pub same_error : {C T T' : Type 0} {fault : Option (HandshakeFault C)} {IsValue : T → Type 0} {IsValue' : T' → Type 0}
    {error : HandshakeFault C} {calls : ℕ} {old new : PortState}
    → Concludes calls fault IsValue (Err error) old new → Concludes calls fault IsValue' (Err error) old new
same_error failed = record { usable = tt; value = tt; asks = tt; fails = failed.fails; power = failed.power }
