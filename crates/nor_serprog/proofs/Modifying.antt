-- Lemmas about the transactions that are read from frames (`modifying_in`).
use Rattle.std.proofs.Common.{◌≡◌, ◌∙◌, ◌≤◌, ◌+◌, ◌++◌, ◌⊎◌, inl, inr, ℕ, Bool, true, false, List, [], ◌∷◌, length, refl, sym, ap, subst, arith}
use Rattle.std.specs.Prelude.{Option, None, Some, zero, suc, ◌==◌, ◌/◌, ◌%◌, All, drop, take, if◌then◌else◌}
use Rattle.std.proofs.lemmas.Bool.{false≢true, cases_Bool, or_cases, eqb-true, le-leb}
use Rattle.std.proofs.lemmas.List.Elements.{All-head, All-tail}
use Rattle.std.proofs.Math.Seq.{take-length}
use Rattle.nor_model.specs.Sent.{Sent, with_sent}
use Rattle.nor_model.specs.Passed.{Passes}
use Rattle.nor_serprog.specs.declared.batch.Batch.{Batch}
use Rattle.nor_serprog.specs.declared.command.Command.{Command}
use Rattle.nor_serprog.specs.declared.command.Command.TheVariants.{Nop, QueryInterface, QueryCommands, QueryName, QuerySerialBuffer, QueryBuses, QueryLongestWrite, SyncNop, QueryLongestRead, SetBuses, Operate, SetFrequency, SetPins, SelectChip}
use Rattle.nor_serprog.specs.declared.port.Port.{Ghosts}
use Rattle.nor_serprog.specs.Asked.{AreNops, AsksInOrder, AsksLead, enable_frame}
use Rattle.nor_serprog.specs.Frame.{FitsFrame, frame_len, frame_of, number_in, operation_frame, three_of}
use Rattle.nor_serprog.specs.Harmless.{IsHarmless, IsHarmlessSince, ModifiesNothing, begins_harmless}
use Rattle.nor_serprog.specs.Link.{is_in_step}
use Rattle.nor_serprog.specs.Modifying.{after_command, begins_waking, first_out, modifying_in, passed_by, with_commands, with_modifying}

number_of : (n : ℕ) → n ≤ 260 → number_in (n % 256) (n / 256 % 256) (n / 65536 % 256) ≡ n
number_of n few = omega (arith, few)

drop-length : (xs : List ℕ) → drop (length xs) xs ≡ []
drop-length [] = refl
drop-length (x ∷ xs) = drop-length xs

first_of : (out : List ℕ) (replies : ℕ) → length out ≤ 260 → first_out (operation_frame out replies) ≡ out
first_of out replies few = ap (λ (n : ℕ). take n out) (number_of (length out) few) ∙ take-length out

abbrev header_of : (out : List ℕ) (replies : ℕ) → List ℕ
header_of out replies = three_of (length out) ++ three_of replies ++ out

abbrev seven_more : (n : ℕ) → ℕ
seven_more n = suc (suc (suc (suc (suc (suc (suc n))))))

len_of : (out : List ℕ) (replies : ℕ) → length out ≤ 260
    → frame_len (operation_frame out replies) ≡ Some (seven_more (length out))
len_of out replies few =
    let seven : 7 + length out ≡ seven_more (length out) = omega arith in
    ap (λ (n : ℕ). Some (7 + n)) (number_of (length out) few) ∙ ap (λ (n : ℕ). Some n) seven

-- The first command of `byte ∷ rest` has `len` bytes.
step : (most : ℕ) (byte : ℕ) (rest : List ℕ) (before : Sent) (len : ℕ) → frame_len (byte ∷ rest) ≡ Some len
    → len ≤ length (byte ∷ rest)
    → with_commands (suc most) (byte ∷ rest) before
    ≡ with_commands most (drop len (byte ∷ rest)) (with_modifying (first_out (byte ∷ rest)) before)
step most byte rest before len is fits =
    let bytes = byte ∷ rest in
    let Then : Option (List ℕ) → Sent = λ later. elim later [
      | None ↦ bytes ∷ before
      | Some later ↦ with_commands most later (with_modifying (first_out bytes) before)
    ] in
    ap Then (ap (λ (n : Option ℕ). after_command n bytes) is
    ∙ ap (λ (b : Bool). if b then Some (drop len bytes) else None) (le-leb len (length bytes) fits))

none_left : (most : ℕ) (bytes : List ℕ) (before : Sent) → bytes ≡ [] → with_commands most bytes before ≡ before
none_left most bytes before none = ap (λ (b : List ℕ). with_commands most b before) none

whole_frame : (most : ℕ) (out : List ℕ) (replies : ℕ) (before : Sent) → length out ≤ 260
    → with_commands (suc most) (operation_frame out replies) before ≡ with_modifying out before
whole_frame most out replies before few =
    step most 0x13 (header_of out replies) before (seven_more (length out)) (len_of out replies few) (omega arith)
    ∙ none_left most (drop (length out) out) _ (drop-length out)
    ∙ ap (λ (o : List ℕ). with_modifying o before) (first_of out replies few)

pub one_frame : (out : List ℕ) (replies : ℕ) (earlier : List (List ℕ)) → length out ≤ 260
    → modifying_in (operation_frame out replies ∷ earlier) ≡ with_modifying out (modifying_in earlier)
one_frame out replies earlier few =
    whole_frame (length (header_of out replies)) out replies (modifying_in earlier) few

two_frames : (out : List ℕ) (replies : ℕ) (earlier : List (List ℕ)) → length out ≤ 260
    → modifying_in ((enable_frame ++ operation_frame out replies) ∷ earlier)
    ≡ with_modifying out ((0x06 ∷ []) ∷ modifying_in earlier)
two_frames out replies earlier few =
    let more = 1 ∷ 0 ∷ 0 ∷ 0 ∷ 0 ∷ 0 ∷ 6 ∷ operation_frame out replies in
    step (length more) 0x13 more (modifying_in earlier) 8 refl (omega arith)
    ∙ whole_frame (seven_more (length (header_of out replies))) out replies ((0x06 ∷ []) ∷ modifying_in earlier) few

pub passes_modifying : (out : List ℕ) (before : Sent) → Passes out before (with_modifying out before)
passes_modifying out before = elim (cases_Bool (begins_waking out)) [
  | inl wakes ↦ inl (ap (λ (b : Bool). if b then before else with_sent out before) wakes)
  | inr stirs ↦ inr (inl (ap (λ (b : Bool). if b then before else with_sent out before) stirs))
]

passes_to : (out : List ℕ) (old new : Sent) → new ≡ with_modifying out old → Passes out old new
passes_to out old new is = subst (λ (s : Sent). Passes out old s) (sym is) (passes_modifying out old)

lead_passed : (waits : Bool) (old new : List (List ℕ)) → AsksLead waits old new → modifying_in new ≡ passed_by waits old
lead_passed true old new asks = ap modifying_in asks
lead_passed false old new asks = ap modifying_in asks

joined : (waits : Bool) (out : List ℕ) (replies : ℕ) (old : List (List ℕ)) → length out ≤ 260
    → modifying_in (((if waits then enable_frame else []) ++ operation_frame out replies) ∷ old)
    ≡ with_modifying out (passed_by waits old)
joined true out replies old few = two_frames out replies old few
joined false out replies old few = one_frame out replies old few

order_passed : (waits : Bool) (out : List ℕ) (replies : ℕ) (old new : List (List ℕ))
    → AsksInOrder waits out replies old new → modifying_in new ≡ with_modifying out (passed_by waits old)
order_passed waits out replies old new asks = elim asks.asks [
  | inl together ↦ ap modifying_in together.0 ∙ joined waits out replies old asks.fits.0
  | inr apart ↦
      ap modifying_in apart.1 ∙ one_frame out replies (enable_frame ∷ old) asks.fits.0
      ∙ ap (λ (w : Bool). with_modifying out (passed_by w old)) (sym apart.0)
]

pub passes_ok : (waits waits' : Bool) (out : List ℕ) (replies : ℕ) (old new : List (List ℕ))
    → (waits' ≡ true → (out ≡ 0x06 ∷ []) × (replies ≡ 0)) → (waits' ≡ true → AsksLead waits old new)
    → (waits' ≡ false → AsksInOrder waits out replies old new) → Passes out (passed_by waits old) (passed_by waits' new)
passes_ok waits true out replies old new enable led sent =
    subst (λ (o : List ℕ). Passes o (passed_by waits old) (passed_by true new)) (sym (enable refl).0)
    (inr (inl (ap (λ (s : Sent). (0x06 ∷ []) ∷ s) (lead_passed waits old new (led refl)))))
passes_ok waits false out replies old new enable led sent =
    passes_to out (passed_by waits old) (modifying_in new) (order_passed waits out replies old new (sent refl))

passes_cut : (waits : Bool) (out : List ℕ) (replies : ℕ) (old new : List (List ℕ))
    → AsksLead waits old new ⊎ AsksInOrder waits out replies old new → Passes out (passed_by waits old) (modifying_in
    new)
passes_cut waits out replies old new (inl lead) = inl (lead_passed waits old new lead)
passes_cut waits out replies old new (inr sent) =
    passes_to out (passed_by waits old) (modifying_in new) (order_passed waits out replies old new sent)

pub passes_err : {P C : Type 0} {over : Ghosts P C} (old new : Batch P C over) (out : List ℕ) (replies : ℕ)
    → (new ≡ old) ⊎ ((is_in_step new.link ≡ false)
    × (AsksLead old.waits (over.state old.link.port).asked (over.state new.link.port).asked
    ⊎ AsksInOrder old.waits out replies (over.state old.link.port).asked (over.state new.link.port).asked))
    → Passes out (passed_by old.waits (over.state old.link.port).asked)
    (passed_by new.waits (over.state new.link.port).asked)
passes_err {P} {C} {over} old new out replies (inl same) =
    inl (ap (λ (b : Batch P C over). passed_by b.waits (over.state b.link.port).asked) same)
passes_err {P} {C} {over} old new out replies (inr (lost, asks)) =
    let before = passed_by old.waits (over.state old.link.port).asked in
    let after = (over.state new.link.port).asked in
    subst (λ (w : Bool). Passes out before (passed_by w after)) (sym (new.spent lost))
    (passes_cut old.waits out replies (over.state old.link.port).asked after asks)

harmless_out : (out : List ℕ) (before : Sent) → begins_harmless out ≡ true → with_modifying out before ≡ before
harmless_out [] before harmless = absurd (false≢true harmless)
harmless_out (opcode ∷ rest) before harmless =
    let at : (n : ℕ) → (opcode == n) ≡ true → with_modifying (n ∷ rest) before ≡ before
    → with_modifying (opcode ∷ rest) before ≡ before
    = λ n is p. subst (λ (o : ℕ). with_modifying (o ∷ rest) before ≡ before) (sym (eqb-true opcode n is)) p in
    elim (or_cases _ _ harmless) [
      | inr is ↦ at 0xFF is refl
      | inl harmless ↦ elim (or_cases _ _ harmless) [
        | inr is ↦ at 0xAB is refl
        | inl harmless ↦ elim (or_cases _ _ harmless) [
          | inr is ↦ at 0x9F is refl
          | inl harmless ↦ elim (or_cases _ _ harmless) [
            | inr is ↦ at 0x5A is refl
            | inl harmless ↦ elim (or_cases _ _ harmless) [
              | inr is ↦ at 0x05 is refl
              | inl is ↦ at 0x03 is refl
            ]
          ]
        ]
      ]
    ]

harmless_frame : (command : Command) (earlier : List (List ℕ)) → ModifiesNothing command → FitsFrame command
    → modifying_in (frame_of command ∷ earlier) ≡ modifying_in earlier
harmless_frame (Operate out replies) earlier nothing fits =
    one_frame out.now replies earlier fits.0 ∙ harmless_out out.now (modifying_in earlier) nothing
harmless_frame Nop earlier nothing fits = refl
harmless_frame QueryInterface earlier nothing fits = refl
harmless_frame QueryCommands earlier nothing fits = refl
harmless_frame QueryName earlier nothing fits = refl
harmless_frame QuerySerialBuffer earlier nothing fits = refl
harmless_frame QueryBuses earlier nothing fits = refl
harmless_frame QueryLongestWrite earlier nothing fits = refl
harmless_frame SyncNop earlier nothing fits = refl
harmless_frame QueryLongestRead earlier nothing fits = refl
harmless_frame (SetBuses flags) earlier nothing fits = refl
harmless_frame (SetFrequency hertz) earlier nothing fits = refl
harmless_frame (SetPins enabled) earlier nothing fits = refl
harmless_frame (SelectChip number) earlier nothing fits = refl

nops_of : (most : ℕ) (bytes : List ℕ) (before : Sent) → length bytes ≤ most → AreNops bytes
    → with_commands most bytes before ≡ before
nops_of most [] before few nops = refl
nops_of zero (byte ∷ rest) before few nops = absurd (omega (arith, few))
nops_of (suc most) (byte ∷ rest) before few nops =
    let P : ℕ → Type 0 = λ b. with_commands (suc most) (b ∷ rest) before ≡ before in
    let later = nops_of most rest before (omega (arith, few))
    (All-tail (λ (b : ℕ). (b ≡ 0x10) ⊎ (b ≡ 0x00)) byte rest nops) in
    elim (All-head (λ (b : ℕ). (b ≡ 0x10) ⊎ (b ≡ 0x00)) byte rest nops) [
      | inl is ↦ subst P (sym is) (step most 0x10 rest before 1 refl (omega arith) ∙ later)
      | inr is ↦ subst P (sym is) (step most 0x00 rest before 1 refl (omega arith) ∙ later)
    ]

nops_modify : (call : List ℕ) (earlier : List (List ℕ)) → AreNops call
    → modifying_in (call ∷ earlier) ≡ modifying_in earlier
nops_modify call earlier nops = nops_of (length call) call (modifying_in earlier) (omega arith) nops

harmless_call : (call : List ℕ) (earlier : List (List ℕ)) → IsHarmless call
    → modifying_in (call ∷ earlier) ≡ modifying_in earlier
harmless_call call earlier (inl nops) = nops_modify call earlier nops
harmless_call call earlier (inr (command, (nothing, (fits, is)))) =
    ap (λ (c : List ℕ). modifying_in (c ∷ earlier)) is ∙ harmless_frame command earlier nothing fits

harmless_calls : (calls start : List (List ℕ)) → All IsHarmless calls → modifying_in (calls ++ start) ≡ modifying_in
    start
harmless_calls [] start all = refl
harmless_calls (call ∷ earlier) start all =
    harmless_call call (earlier ++ start) (All-head IsHarmless call earlier all)
    ∙ harmless_calls earlier start (All-tail IsHarmless call earlier all)

pub harmless_modifies : (start asked : List (List ℕ)) → IsHarmlessSince start asked
    → modifying_in asked ≡ modifying_in start
harmless_modifies start asked h = ap modifying_in h.since ∙ harmless_calls h.later start h.harmless
