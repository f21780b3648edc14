-- The exits of `apply` after each of its parts: the unlock, the erases, the programs and the last status write.
use Rattle.std.proofs.Common.{ℕ, ◌≡◌, ◌<◌, ◌≤◌, ◌+◌, ◌*◌, ◌/◌, ◌∙◌, ◌++◌, Bool, true, false, List, [], ◌∷◌, inl, inr, refl, sym, ap, subst, arith, true≢false}
use Rattle.std.specs.Prelude.{◌&&◌, ◌||◌, if◌then◌else◌}
use Rattle.std.proofs.lemmas.Bool.{or_right, or_cases}
use Rattle.std.proofs.lemmas.List.{append_assoc}
use Rattle.std.proofs.Math.Bool.{or-true}
use Rattle.nor_geometry.specs.Below.{count_below}
use Rattle.nor_geometry.specs.Counts.{sector_count}
use Rattle.nor_geometry.proofs.Counting.{count_below-most}
use Rattle.nor_model.specs.Sent.{Sent, begins_erase, begins_program, has_sent, erases_of, programs_of}
use Rattle.nor_model.specs.Bus.{BusState}
use Rattle.nor_driver.specs.declared.waits.OperationError.{OperationError}
use Rattle.nor_driver.specs.declared.waits.OperationError.TheVariants.{Stopped, Timeout}
use Rattle.nor_driver.specs.Waits.{OperationFails, NamesTimeout}
use Rattle.nor_driver.specs.StatusWrites.{is_status_with_code, status_write, SendsStatusWrite, EndsWithCode}
use Rattle.nor_driver.specs.Limits.{writing, no_status, SendsExactly}
use Rattle.nor_driver.specs.Operations.{LeavesOperation, Operates, most_operation}
use Rattle.nor_driver.proofs.Limits.{exactly_none, exactly_then}
use Rattle.nor_plan.specs.Content.{once_erased, is_programmed}
use Rattle.nor_plan.specs.SectorSet.{none}
use Rattle.nor_apply.specs.declared.changes.Changes.{Changes}
use Rattle.nor_apply.specs.declared.tally.Tally.{Tally}
use Rattle.nor_apply.specs.Within.{is_writable}
use Rattle.nor_apply.specs.Spending.{may_target, NamesTimeoutIn}
use Rattle.nor_apply.specs.Change.{MayChange, blank}
use Rattle.nor_apply.specs.Erasing.{is_erase_of, CanEraseAll, LeavesErases, DoesErases}
use Rattle.nor_apply.specs.Programming.{CanProgramAll, LeavesPrograms, DoesPrograms, most_sector}
use Rattle.nor_apply.specs.Applying.{touched_in, raised_in, writes_code, status_writes, is_status_asked, most_applied, CanApply, LeavesApply, ErasesFirst, DoesApply, NamesChange}
use Rattle.nor_apply.proofs.InTurn.{ran_none, ran_after, ran_leaves, honest_now}
use Rattle.nor_apply.proofs.LastCode.{none_added, coded_none, coded_then, coded_kept, coded_written}
use Rattle.nor_apply.proofs.Targeting.{target_here, target_wider}
use Rattle.nor_apply.proofs.Changing.{change_as, same_change}
use Rattle.nor_apply.proofs.ApplyingSteps.{code_read, code_once, code_spared, intermediate_first, intermediate_changed, can_erase_all, can_program_all, applied}
use Rattle.nor_apply.proofs.ApplyingInTurn.{raised_few, Numbers, SoFar, EndsInError, ends_in_error, goes_on, code_then, code_written}

abbrev pub lifting : (unlock : Bool) → (erases programs : ℕ) → Numbers
lifting unlock erases programs =
    record { erases = erases; programs = programs; status_writes = if unlock then 1 else 0 }

abbrev pub LiftedIf : Changes → (ℕ → ℕ) → (old now : BusState) → (transactions : ℕ) → (unlock : Bool) → Type 0
LiftedIf changes wanted old now transactions unlock =
    SoFar changes wanted old.chip.bytes old.worn (if unlock then 0 else code_read changes) (lifting unlock 0 0) 0
    old now transactions

abbrev pub Lifted : Changes → (ℕ → ℕ) → (old now : BusState) → (transactions : ℕ) → Type 0
Lifted changes wanted old now transactions = LiftedIf changes wanted old now transactions changes.unlock

module _ (changes : Changes) (wanted : ℕ → ℕ) (old : BusState) where
  nothing : LiftedIf changes wanted old old 0 false
  nothing = record {
    ran = ran_none old (refl, refl, refl);
    may = λ honest can. same_change (search) can.idle (λ s. refl);
    intermediate = λ honest can. intermediate_first can;
  }

  pub not_lifted : changes.unlock ≡ false → Lifted changes wanted old old 0
  not_lifted is = subst (LiftedIf changes wanted old old 0) (sym is) nothing

  pub lifted : {new : BusState} {sent : ℕ} → changes.unlock ≡ true
      → LeavesOperation (status_write changes.status 0) old new → Operates (status_write changes.status 0) old new sent
      → Lifted changes wanted old new (0 + sent)
  lifted {new} {sent} is leaves does =
      subst (LiftedIf changes wanted old new (0 + sent)) (sym is)
      (code_written nothing leaves (λ can. can.writable (rw is refl)) does (grind arith))

  pub code_lifted : {new : BusState} → changes.unlock ≡ true → SendsStatusWrite changes.status 0 old new
      → EndsWithCode (code_read changes) (code_once changes) old new
  code_lifted {new} is sends =
      subst (λ (unlock : Bool). EndsWithCode (code_read changes) (if unlock then 0 else code_read changes) old new)
      (sym is) (coded_written changes.status (omega arith) sends)

  pub code_not_lifted : changes.unlock ≡ false → EndsWithCode (code_read changes) (code_once changes) old old
  code_not_lifted is =
      subst (λ (unlock : Bool). EndsWithCode (code_read changes) (if unlock then 0 else code_read changes) old old)
      (sym is) (coded_none (code_read changes) old)

abbrev pub Erased : Changes → (ℕ → ℕ) → (erases : ℕ) → (old now : BusState) → (transactions : ℕ) → Type 0
Erased changes wanted erases old =
    SoFar changes wanted (once_erased (raised_in changes) old.chip.bytes) (λ s. old.worn s || raised_in changes s)
    (code_once changes) (lifting changes.unlock erases 0) 0 old

one_most : (b : Bool) → (if b then 1 else 0) ≤ 1
one_most b = grind arith

module _ {changes : Changes} {wanted : ℕ → ℕ} {old mid new : BusState} {sent : ℕ}
    (so : Lifted changes wanted old mid sent)
    (inside : (s : ℕ) → raised_in changes s ≡ true → touched_in changes s ≡ true)
    (leaves : LeavesErases (raised_in changes) changes.kinds changes.size mid new) where
  erase_then : old.honest ≡ true → CanApply changes wanted old.chip
      → CanEraseAll (raised_in changes) changes.kinds changes.size mid.chip
      × (MayChange (raised_in changes) (raised_in changes) blank mid new
      → MayChange (touched_in changes) (raised_in changes) wanted mid new)
  erase_then honest can = (
    can_erase_all can (so.intermediate honest can),
    change_as inside (λ s raised. raised) (λ a plain raised. absurd (true≢false (sym raised ∙ plain))),
  )

  targets_raised : (s : ℕ) → may_target (raised_in changes) changes.size s ≡ true
      → may_target (touched_in changes) changes.size s ≡ true
  targets_raised s = target_wider _ _ changes.size s inside

  erases_fit : sent + most_operation * sector_count (raised_in changes) ≤ most_applied (sector_count (touched_in changes))
  erases_fit = omega (arith, so.ran.tallies.few, one_most changes.unlock, raised_few changes inside)

  pub erases_failed : {error : OperationError} → OperationFails (most_operation * sector_count (raised_in changes)) mid new error
      → EndsInError changes wanted old new error
  erases_failed fails = ends_in_error so leaves erase_then (grind (arith, targets_raised)) erases_fit erases_fit fails

  pub erased : {more : Tally} → DoesErases (raised_in changes) changes.kinds changes.size mid new more
      → Erased changes wanted more.count old new (sent + more.transactions)
  erased does =
      goes_on so leaves erase_then does.exactly does.tallies (omega arith) (grind (arith, targets_raised)) (omega arith)
      (λ honest can.
      let is = so.intermediate honest can in
      intermediate_changed is (does.done (honest_now so.ran honest) (can_erase_all can is)))

abbrev pub Programmed : Changes → (ℕ → ℕ) → (erases programs : ℕ) → (old now : BusState) → (transactions : ℕ) → Type 0
Programmed changes wanted erases programs old =
    SoFar changes wanted
    (λ a. if touched_in changes (a / 4096) then wanted a else once_erased (raised_in changes) old.chip.bytes a)
    (λ s. (old.worn s || raised_in changes s) || none s) (code_once changes)
    (lifting changes.unlock erases programs) (sector_count (touched_in changes)) old

module _ {changes : Changes} {wanted : ℕ → ℕ} {erases : ℕ} {old mid new : BusState} {sent : ℕ}
    (so : Erased changes wanted erases old mid sent)
    (leaves : LeavesPrograms (touched_in changes) (raised_in changes) wanted mid new) where
  program_then : old.honest ≡ true → CanApply changes wanted old.chip
      → CanProgramAll (touched_in changes) (raised_in changes) wanted mid.chip
      × (MayChange (touched_in changes) none wanted mid new
      → MayChange (touched_in changes) (raised_in changes) wanted mid new)
  program_then honest can = (
    can_program_all can (so.intermediate honest can),
    change_as (λ s touched. touched) (λ s no. absurd (true≢false (sym no))) (λ a plain touched. refl),
  )

  targets_touched : (s : ℕ) → touched_in changes s ≡ true → may_target (touched_in changes) changes.size s ≡ true
  targets_touched s = target_here (touched_in changes) changes.size s

  pub programs_failed : {error : OperationError}
      → ((s : ℕ) → raised_in changes s ≡ true → touched_in changes s ≡ true) → erases ≤ sector_count (raised_in changes)
      → OperationFails (most_sector * sector_count (touched_in changes)) mid new error
      → EndsInError changes wanted old new error
  programs_failed inside few fails =
      let fits : sent + most_sector * sector_count (touched_in changes) ≤ most_applied (sector_count (touched_in changes)) =
      omega (arith, so.ran.tallies.few, one_most changes.unlock, raised_few changes inside) in
      ends_in_error so leaves program_then (grind (arith, targets_touched)) fits fits fails

  pub programmed : {more : Tally} → DoesPrograms (touched_in changes) (raised_in changes) wanted mid new more
      → Programmed changes wanted erases more.count old new (sent + more.transactions)
  programmed does =
      goes_on so leaves program_then does.exactly does.tallies (omega arith) (grind (arith, targets_touched)) (omega arith)
      (λ honest can.
      let is = so.intermediate honest can in
      intermediate_changed is (does.done (honest_now so.ran honest) (can_program_all can is)))

has_sent-left : (is : List ℕ → Bool) (later earlier : Sent) → has_sent is later ≡ true
    → has_sent is (later ++ earlier) ≡ true
has_sent-left is [] earlier has = absurd (true≢false (sym has))
has_sent-left is (out ∷ later) earlier has = elim (or_cases _ _ has) [
  | inl before ↦ rw (has_sent-left is later earlier before) refl
  | inr now ↦ rw now (or-true _)
]

pub last_names : (changes : Changes) → writes_code changes ≡ true → (error : OperationError) → NamesTimeout 0 error
    → NamesChange changes error
last_names changes writes Stopped names = tt
last_names changes writes (Timeout address) names = inl (rw writes (omega arith), names)

pub sector_names : (changes : Changes) (error : OperationError) → NamesTimeoutIn (touched_in changes) error
    → NamesChange changes error
sector_names changes Stopped names = tt
sector_names changes (Timeout address) names = inr names

pub record Parts (changes : Changes) (wanted : ℕ → ℕ) (old free mid made : BusState) (sent : ℕ)
    (erases programs : Tally) : Type 0 where
  pub inside : (s : ℕ) → raised_in changes s ≡ true → touched_in changes s ≡ true
  pub six_bits : changes.code < 64
  pub coded : EndsWithCode (code_read changes) (code_once changes) old free
  pub lift : Lifted changes wanted old free sent
  pub erases_leave : LeavesErases (raised_in changes) changes.kinds changes.size free mid
  pub erase : DoesErases (raised_in changes) changes.kinds changes.size free mid erases
  pub programs_leave : LeavesPrograms (touched_in changes) (raised_in changes) wanted mid made
  pub program : DoesPrograms (touched_in changes) (raised_in changes) wanted mid made programs

pub record Ended (changes : Changes) (wanted : ℕ → ℕ) (erases programs : ℕ) (old made new : BusState)
    (transactions : ℕ) : Type 0 where
  pub exactly : SendsExactly 0 0 (if writes_code changes then 1 else 0) made new
  pub coded : EndsWithCode (code_once changes) changes.code made new
  pub so : SoFar changes wanted
      (λ a. if touched_in changes (a / 4096) then wanted a else once_erased (raised_in changes) old.chip.bytes a)
      (λ s. (old.worn s || raised_in changes s) || none s) changes.code
      (record { erases = erases; programs = programs; status_writes = status_writes changes })
      (sector_count (touched_in changes)) old new transactions

module _ {changes : Changes} {wanted : ℕ → ℕ} {old free mid made : BusState} {sent : ℕ} {erases programs : Tally}
    (parts : Parts changes wanted old free mid made sent erases programs) where
  second : Erased changes wanted erases.count old mid (sent + erases.transactions)
  second = erased parts.lift parts.inside parts.erases_leave parts.erase

  third : Programmed changes wanted erases.count programs.count old made
      (sent + erases.transactions + programs.transactions)
  third = programmed second parts.programs_leave parts.program

  pub not_written : {all : ℕ} → writes_code changes ≡ false
      → all ≡ sent + erases.transactions + programs.transactions
      → Ended changes wanted erases.count programs.count old made made all
  not_written spared sum = record {
    exactly = rw spared (exactly_none made made refl);
    coded = subst (λ (code : ℕ). EndsWithCode (code_once changes) code made made) (code_spared changes spared)
        (coded_none (code_once changes) made);
    so = record {
      ran = ran_after third.ran {k = 0} (grind arith) (ran_none {limits = writing no_status 0} made (refl, refl, refl))
          (omega arith) (grind arith) (omega arith);
      may = third.may;
      intermediate = λ honest can.
          let is = third.intermediate honest can in let code = code_spared changes spared in
          grind (arith, is.byte, is.wear);
    };
  }

  module _ {new : BusState} (writes : writes_code changes ≡ true)
      (leaves : LeavesOperation (status_write changes.status changes.code) made new) where
    last_writable : CanApply changes wanted old.chip → is_writable old.chip ≡ true
    last_writable can = can.writable (or_right changes.unlock (writes_code changes) writes)

    last_asked : (one two : ℕ) → is_status_with_code changes.status changes.code one two ≡ true
        → is_status_asked changes one two ≡ true
    last_asked one two asked =
        or_right (changes.unlock && is_status_with_code changes.status 0 one two)
        (writes_code changes && is_status_with_code changes.status changes.code one two) (rw writes asked)

    pub last_failed : {error : OperationError} → OperationFails most_operation made new error
        → EndsInError changes wanted old new error
    last_failed fails =
        let most = most_applied (sector_count (touched_in changes)) in
        let fits : sent + erases.transactions + programs.transactions + most_operation ≤ most =
        omega (arith, third.ran.tallies.few, parts.erase.fewer, parts.program.fewer, raised_few changes parts.inside, one_most changes.unlock) in
        ends_in_error third leaves.leaves (code_then third leaves last_writable)
        (grind (arith, last_asked, parts.erase.fewer, parts.program.fewer)) fits fits fails

    pub written : {more all : ℕ} → Operates (status_write changes.status changes.code) made new more
        → SendsStatusWrite changes.status changes.code made new → all ≡ sent + erases.transactions +
        programs.transactions + more
        → Ended changes wanted erases.count programs.count old made new all
    written does sends sum = record {
      exactly = rw writes does.sends;
      coded = coded_written changes.status parts.six_bits sends;
      so = rw sum (code_written third leaves last_writable does (grind (arith, last_asked)));
    }

  module _ {new : BusState} {all : ℕ} (ended : Ended changes wanted erases.count programs.count old made new all) where
    erased_first : ErasesFirst (raised_in changes) old new
    erased_first =
        let lift = parts.lift.ran.exactly in let erase = parts.erase.targeted in
        let last = exactly_then {e'' = 0} (omega arith) refl refl parts.program.exactly ended.exactly in
        let erasing : Sent = erase.later ++ lift.later in
        let until : mid.sent ≡ erasing ++ old.sent =
        erase.added ∙ ap (λ (sent : Sent). erase.later ++ sent) lift.added
        ∙ sym (append_assoc erase.later lift.later old.sent) in
        record {
          erasing = erasing;
          later = last.later;
          added = last.added ∙ ap (λ (sent : Sent). last.later ++ sent) until;
          each = λ s is. has_sent-left (is_erase_of s) erase.later lift.later (erase.each s is);
          unprogrammed = none_added begins_program erasing old.sent
              (ap programs_of (sym until) ∙ omega (arith, parts.erase.exactly.programmed, lift.programmed));
          unerased = none_added begins_erase last.later mid.sent (ap erases_of (sym last.added) ∙ omega (arith, last.erased));
        }

    applied_fits : all ≤ most_applied (sector_count (touched_in changes))
    applied_fits =
        omega (arith, ended.so.ran.tallies.few, parts.erase.fewer, parts.program.fewer, raised_few changes parts.inside, one_most changes.unlock, one_most (writes_code changes))

    pub few_sent : all < 18446744073709551616
    few_sent = omega (arith, applied_fits, count_below-most 4096 (touched_in changes))

    pub does_applied : LeavesApply changes wanted old new × DoesApply changes wanted old new
        (record { erases = erases.count; programs = programs.count; transactions = all })
    does_applied = (
      ran_leaves ended.so.ran (grind (arith, parts.erase.fewer, parts.program.fewer)) applied_fits ended.so.may,
      record {
        erases = parts.erase.count;
        fewer_erases = parts.erase.fewer;
        fewer_programs = parts.program.fewer;
        exactly = ended.so.ran.exactly;
        in_order = erased_first;
        protects = coded_then parts.coded
            (coded_then (coded_kept parts.erase.exactly) (coded_then (coded_kept parts.program.exactly) ended.coded));
        tallies = ended.so.ran.tallies;
        done = λ honest can. applied can (ended.so.intermediate honest can);
        programs = λ honest can.
            let is = second.intermediate honest can in
            let bytes : mid.chip.bytes ≡ once_erased (raised_in changes) old.chip.bytes = λ i a. is.byte a i in
            parts.program.counted (honest_now second.ran honest) (can_program_all can is)
            ∙ ap (λ (x : ℕ → ℕ). count_below 65536 (is_programmed (touched_in changes) x wanted)) bytes;
      },
    )
