-- Runs that follow one another: a journal that can restore the original chip still can after each run.
use mathlib.Core.HLevel.{is_prop→PathP}
use Rattle.std.proofs.Common.{◌≡◌, ◌<◌, ◌∙◌, ◌∷◌, [], ℕ, Bool, List, Option, None, Some, Result}
use Rattle.std.proofs.Common.{Ok, ◌⊎◌, IfSome, IsTrue, ap, arith, drop, inl, inr, length, option_map, refl, replicate}
use Rattle.std.proofs.Common.{slice_index, subst, sym, take, true, unwrap_or}
use Rattle.std.specs.Borrow.{Bor}
use Rattle.std.proofs.Math.Bool.{Bool-set}
use Rattle.std.proofs.lemmas.List.{append-nil, get_or_past, take-append-drop}
use Rattle.nor_model.specs.Bus.{BusState}
use Rattle.nor_model.specs.Chip.{Chip, IsSame, kept_in, status_of}
use Rattle.nor_model.specs.Makers.{HasParts}
use Rattle.nor_chip.specs.Sim.{sim_state}
use Rattle.nor_model.specs.Size.{is_chip_size}
use Rattle.nor_model.proofs.Kept.{kept_in-status_of}
use Rattle.nor_model.specs.declared.config.Config.{Config}
use Rattle.nor_model.specs.declared.config.Kinds.{Kinds}
use Rattle.nor_files.specs.Calls.{LeavesNoMore}
use Rattle.nor_files.specs.Files.{AreAtRest, FilesState, Found, Name, is_lawful}
use Rattle.nor_journal.specs.Text.{Content as Journal, IsContent, text}
use Rattle.nor_journal.proofs.OneForm.{one_text}
use Rattle.nor_session.specs.Headline.{CanRestore}
use Rattle.nor_args.specs.Text.{Text}
use Rattle.nor_args.specs.declared.job.ChipJob.{ChipJob}
use Rattle.nor_args.specs.declared.job.Task.{Task}
use Rattle.nor_args.specs.declared.job.Task.TheVariants as task
use Rattle.nor_args.specs.declared.programmer.Emulated.{Emulated}
use Rattle.nor_args.specs.declared.programmer.Programmer.{Programmer}
use Rattle.flashnor.specs.Chips.{AreWrittenBack, IsConfigWith}
use Rattle.flashnor.specs.Endings.{all_written}
use Rattle.flashnor.specs.Found.{emulated_part}
use Rattle.flashnor.specs.Left.{IsOpenedFrom, KeepsRestorable, IsRestorableFrom, LeavesRestorable, MayFind, Opened}
use Rattle.nor_console.specs.Stored.{ArePut, IsRead, LeavesNoMoreOf}
use Rattle.flashnor.specs.Undone.{HaveOneChip, LeavesOriginal, NameOne, Restores, RestoresFrom}
use Rattle.nor_console.specs.declared.answers.Answer.{Answer}
use Rattle.flashnor.specs.declared.holding.Unwritten.{Unwritten}
use Rattle.nor_console.specs.declared.messages.Fault.{Fault}
use Rattle.flashnor.proofs.Reopened.{opened_many, opened_size}
use Rattle.flashnor.proofs.Stays.{known_at_rest, not_that}
use Rattle.nor_console.proofs.Lent.{lawful_after}
use Rattle.flashnor.proofs.Traced.{reads_before}
use Rattle.flashnor.proofs.Aside.{left_seen, mixed_can_restore, pick}

same_parts : {i : List ℕ} {n : ℕ} {k : Kinds} {s : Bool} {f : List ℕ} {one other : Config} → HasParts i n k s f one
    → HasParts i n k s f other → one ≡ other
same_parts {one = one} {other = other} a b =
    let size : one.size ≡ other.size = a.size ∙ sym b.size in
    λ i. record {
      id = (a.id ∙ sym b.id) i;
      size = size i;
      kinds = (a.kinds ∙ sym b.kinds) i;
      scheme = (a.scheme ∙ sym b.scheme) i;
      unique = (a.unique ∙ sym b.unique) i;
      sfdp = (a.sfdp ∙ sym b.sfdp) i;
      sized = is_prop→PathP (λ j. IsTrue (is_chip_size (size j))) (λ j. Bool-set (is_chip_size (size j)) true)
          one.sized other.sized i;
    }

same_with : (chip : Emulated) (number : Option (List ℕ)) (one other : Config) → IsConfigWith chip number one
    → IsConfigWith chip number other → one ≡ other
same_with chip None one other a b = same_parts a b
same_with chip (Some number) one other a b =
    let zeros = replicate 8 0 in
    let bare = same_parts {one = record one { unique = zeros }} {other = record other { unique = zeros }} a.0 b.0 in
    λ i. record (bare i) { unique = (a.1 ∙ sym b.1) i }

found_one : (one other : Option (Bor Text)) (was left : Found) (files : FilesState) → NameOne one other
    → MayFind other was left files → MayFind one was left files
found_one one other was left files same can = grind arith

less_of : (one other : Option (Bor Text)) (was left : Found) (old new : FilesState) → NameOne one other
    → LeavesNoMoreOf other old new → MayFind one was left new → MayFind one was left old
less_of one other was left old new same less can = grind arith

restores : (file : Text) (done : Task) → Restores file done
    → (journal : Bor Text) × (done ≡ task.Restore journal) × (journal.now ≡ file)
restores file done is = grind arith

same_journal : (journal other : Journal) (n : ℕ) → IsContent journal → IsContent other
    → Some (text other) ≡ option_map (take n) (Some (text journal)) → other ≡ journal
same_journal journal other n sound is reads =
    (one_text other journal (drop n (text journal)) [] is sound
    (cc (take-append-drop n (text journal), append-nil (text journal)))).0

module _ (programmer : Programmer) (file : Text) (start : FilesState) (first : Opened programmer start)
    (other : Programmer) (same : HaveOneChip programmer other) where
  restorable_less : (old new : FilesState) → LeavesNoMore file old new
      → ((found : Found) → MayFind programmer.image first.read.bytes.found found new
      → MayFind programmer.image first.read.bytes.found found old)
      → ((found : Found) → MayFind programmer.status first.read.status.found found new
      → MayFind programmer.status first.read.status.found found old)
      → IsRestorableFrom file first old → IsRestorableFrom file first new
  restorable_less old new journal image status restorable = record {
    journal = restorable.journal;
    sound = restorable.sound;
    left = λ left can. restorable.left left (journal left can);
    back = λ i s opened can_i can_s from. restorable.back i s opened (image i can_i) (status s can_s) from;
  }

  first_byte : first.read.bytes.found ≡ None → (a : ℕ)
      → slice_index (replicate first.bus.chip.config.size 255) a ≡ first.bus.chip.bytes a
  first_byte none a = grind arith

  first_kept : first.read.status.found ≡ None → kept_in (0 ∷ 0 ∷ []) ≡ first.bus.chip.kept
  first_kept none = grind arith

  module _ (mid : FilesState) (rest : AreAtRest mid) (may_stay : (name : Name) → mid.may_leave name (mid.view.seen name))
      (restorable : IsRestorableFrom file first mid) where
    one_journal : (journal : Journal) → IsContent journal → IsRead mid.view file 16793662 (text journal)
        → journal ≡ restorable.journal
    one_journal journal is reads =
        same_journal restorable.journal journal 16793662 restorable.sound is (reads (known_at_rest rest file)
        ∙ ap (option_map (take 16793662)) (restorable.left (mid.view.seen file) (may_stay file)))

    module _ (found : Opened other mid) where
      one_setup : found.bus.chip.config ≡ first.bus.chip.config
      one_setup =
          same_with programmer.chip programmer.unique found.bus.chip.config first.bus.chip.config
          (rw (← same.chip, ← same.unique) found.opens.ready.config) first.opens.ready.config

      from : IsOpenedFrom found.read.bytes.found found.read.status.found first.bus.chip.config found.bus
      from = grind (arith, one_setup, opened_size found)

      can_restore_then : (journal : Journal) → IsContent journal → IsRead mid.view file 16793662 (text journal)
          → CanRestore journal first.bus.chip found.bus
      can_restore_then journal is reads =
          rw (one_journal journal is reads) (restorable.back found.read.bytes.found found.read.status.found found.bus
          (found_one programmer.image other.image _ _ mid same.image
          (left_seen mid rest may_stay other.image _ _ found.read.bytes.is_found found.read.bytes.whole _))
          (found_one programmer.status other.status _ _ mid same.status
          (left_seen mid rest may_stay other.status _ _ found.read.status.is_found found.read.status.whole _)) from)

    module _ (new : FilesState) (may_stay' : (name : Name) → new.may_leave name (new.view.seen name))
        (kept : LeavesRestorable other file mid new) (image status : Found) (later : BusState)
        (can_image : MayFind programmer.image first.read.bytes.found image new)
        (can_status : MayFind programmer.status first.read.status.found status new)
        (is : IsOpenedFrom image status first.bus.chip.config later) where
      abbrev found : Opened other mid
      found = kept.found

      setup : found.bus.chip.config ≡ first.bus.chip.config
      setup = one_setup found

      abbrev Kept : Option (Bor Text) → (was given left : Found) → (len : ℕ) → Type 0
      Kept name was given left len = (of : Found) × MayFind name given of new × IfSome of (λ all. length all ≡ len)
          × ((left ≡ of) ⊎ ((was ≡ None) × (left ≡ None)))

      kept_image : Kept other.image first.read.bytes.found found.read.bytes.found image (emulated_part other.chip).size
      kept_image =
          pick programmer.image other.image _ _ image _ mid new same.image rest may_stay' found.read.bytes.is_found
          found.read.bytes.whole kept.image can_image
          (grind (arith, is.whole, setup, opened_size found))

      kept_status : Kept other.status first.read.status.found found.read.status.found status 2
      kept_status =
          pick programmer.status other.status _ _ status 2 mid new same.status rest may_stay' found.read.status.is_found
          found.read.status.whole kept.status can_status is.two

      abbrev state : BusState
      state = record later {
        chip = record later.chip {
          bytes = λ a. slice_index (unwrap_or kept_image.0 (replicate found.bus.chip.config.size 255)) a;
          kept = kept_in (unwrap_or kept_status.0 (0 ∷ 0 ∷ []));
        };
      }

      can_state : CanRestore restorable.journal first.bus.chip state
      can_state =
          subst (λ (j : Journal). CanRestore j first.bus.chip state)
          (one_journal kept.journal kept.sound kept.read) (kept.back first.bus.chip
          (can_restore_then found kept.journal kept.sound kept.read) kept_image.0 kept_status.0 state kept_image.1 kept_status.1
          (record {
            config = is.config ∙ sym setup;
            whole = subst (λ (n : ℕ). IfSome kept_image.0 (λ all. length all ≡ n)) (sym (opened_size found))
                kept_image.2;
            two = kept_status.2;
            bytes = λ a. refl;
            kept = refl;
            idle = is.idle;
            further = is.further;
          }))

      can_later : CanRestore restorable.journal first.bus.chip later
      can_later =
          mixed_can_restore restorable.journal first.bus.chip state later can_state refl is.config
          (λ a. grind (arith, kept_image.3, setup, is.bytes a, first_byte)) (grind (arith, kept_status.3, is.kept, first_kept))
          is.idle

    restorable_at_exit : (new : FilesState) → ((name : Name) → new.may_leave name (new.view.seen name))
        → KeepsRestorable other file mid new → IsRestorableFrom file first new
    restorable_at_exit new may_stay' (inl none) =
        restorable_less mid new none.journal (search less_of) (search less_of) restorable
    restorable_at_exit new may_stay' (inr kept) = record {
      journal = restorable.journal;
      sound = restorable.sound;
      left = λ left may. restorable.left left (kept.stays.leaves left may);
      back = can_later new may_stay' kept;
    }

  module _ (chip : Chip) (new : FilesState) (lawful : is_lawful new.view ≡ true) (is : IsSame first.bus.chip chip)
      (put : AreWrittenBack other chip None None new) where
    durable : (name given : Option (Bor Text)) (was : Found) (bytes : List ℕ) (left : Found) → (given ≡ None → was ≡ None)
        → NameOne given name → ArePut name bytes None new → MayFind given was left new
        → ((was ≡ None) × (left ≡ None)) ⊎ (left ≡ Some bytes)
    durable name given was bytes left none one has can = grind arith

    byte_of : (left : Found) (a : ℕ) → ((first.read.bytes.found ≡ None) × (left ≡ None)) ⊎ (left ≡ Some put.bytes)
        → slice_index (unwrap_or left (replicate first.bus.chip.config.size 255)) a ≡ first.bus.chip.bytes a
    byte_of left a one = grind (
      arith,
      first_byte,
      put.are.at a,
      is.bytes a,
      opened_many first,
      first.opens.holds.bytes a,
      get_or_past put.bytes a 0,
      get_or_past first.content.bytes.items a 0,
    )

    opens_original : LeavesOriginal first new
    opens_original image status opened can can_status from' =
        let small : chip.kept.two < 128 = rw (is.kept ∙ first.opens.holds.kept) (omega arith) in
        let i = durable other.image programmer.image first.read.bytes.found put.bytes image
        (grind (arith, first.read.bytes.is_found)) same.image put.image_put can in
        let s = durable other.status programmer.status first.read.status.found (status_of chip) status
        (grind (arith, first.read.status.is_found)) same.status put.status_put can_status in
        record {
          config = from'.config;
          bytes = λ a. from'.bytes a ∙ byte_of image a i;
          kept = grind (arith, s, first_kept, kept_in-status_of chip small, is.kept, from'.kept);
        }

module _ (programmer : Programmer) (file : Text) (start : FilesState) (first : Opened programmer start) (on_chip : ChipJob)
    (old mid new : FilesState) (may_stay : (name : Name) → mid.may_leave name (mid.view.seen name))
    (may_stay' : (name : Name) → new.may_leave name (new.view.seen name)) where
  restorable_mid : (unwritten : Unwritten) (returned : Result Answer Fault)
      → RestoresFrom file first on_chip unwritten returned old mid new → IsRestorableFrom file first mid
  restorable_mid unwritten returned ran =
      restorable_less programmer file start first on_chip.programmer ran.same old mid ran.follows.journal ran.follows.image
      ran.follows.status ran.restorable

  pub restorable_after : (unwritten : Unwritten) (returned : Result Answer Fault)
      → RestoresFrom file first on_chip unwritten returned old mid new → IsRestorableFrom file first new
  restorable_after unwritten returned ran =
      let (journal, task', named) = restores file on_chip.task ran.restores in
      restorable_at_exit programmer file start first on_chip.programmer ran.same mid ran.follows.rest may_stay
      (restorable_mid unwritten returned ran) new may_stay' (rw (task', named) at (ran.answers.1 ran.follows.rest))

  pub leaves_original : (answer : Answer) → RestoresFrom file first on_chip all_written (Ok answer) old mid new
      → LeavesOriginal first new
  leaves_original answer ran =
      let called = ran.answers.0 in
      let (journal, task', named) = restores file on_chip.task ran.restores in
      let (amid, but, job) = called.does in
      let does = rw (task', named) at job in
      let apart = rw named at (not_that mid.view.nature on_chip.programmer.trace journal
      (rw task' at called.roles.trace_journal)) in
      let reads = reads_before on_chip.programmer.trace file 16793662 _ mid.view amid apart but does.read in
      let can = can_restore_then programmer file start first on_chip.programmer ran.same mid ran.follows.rest may_stay
      (restorable_mid all_written (Ok answer) ran)
      (record { content = called.content; read = called.read; bus = sim_state called.bus; opens = called.started.opens })
      does.journal does.sound reads in
      opens_original programmer file start first on_chip.programmer ran.same called.new.chip new
      (lawful_after called.nature ran.follows.rest.lawful) (does.restored.back first.bus.chip can)
      (called.left ran.follows.rest (rw task' refl))
