use Rattle.std.proofs.Common.{◌≡◌, ◌<◌, ◌+◌, ◌%◌, ℕ, true, List, [], ◌∷◌, length, slice_index, refl, subst, arith}
use Rattle.std.proofs.lemmas.List.{ext_get_or}
use Rattle.nor_model.specs.History.{Answered, EndsBusy, replied}
use Rattle.nor_model.specs.PolledReady.{is_poll}
use Rattle.nor_model.specs.Bus.{BusState, KeepsNature}
use Rattle.nor_model.specs.Exchange.{Exchange}
use Rattle.nor_driver.specs.OnlyReads.{Rested, Spent, OnlyReads}
use Rattle.nor_driver.specs.Waits.{Polls}
use Rattle.nor_driver.proofs.Readings.{honest_reads_by}
use Rattle.nor_driver.proofs.ReadsInTurn.{only_reads_then, only_reads_more}

pub one_byte : (bytes : List ℕ) → length bytes ≡ 1 → bytes ≡ slice_index bytes 0 ∷ []
one_byte bytes one = ext_get_or 0 bytes (slice_index bytes 0 ∷ []) one
    (λ i below. let first : i ≡ 0 = omega (arith, one, below) in rw first refl)

pub replied_byte : (out answer : List ℕ) (old new : List Exchange) → length answer ≡ 1
    → new ≡ replied out answer ∷ old → new ≡ replied out (slice_index answer 0 ∷ []) ∷ old
replied_byte out answer old new one is =
    subst (λ (bytes : List ℕ). new ≡ replied out bytes ∷ old) (one_byte answer one) is

pub poll_answered : {old new : BusState} {status : ℕ} → Polls old new status
    → Answered is_poll old.history new.history (status ∷ [])
poll_answered polls = record { out = 0x05 ∷ []; asks = refl; history = polls.history }

pub ends_busy : {old new : BusState} {status : ℕ} → Polls old new status → status % 2 ≡ 1 → EndsBusy new.history
ends_busy {old} {new} {status} polls busy =
    record { status = status; earlier = old.history; is = polls.history; busy = busy }

pub polled_leaves : (polls most : ℕ) (old mid new : BusState) → polls < most → KeepsNature old mid
    → mid.sent ≡ old.sent → (old.honest ≡ true → Rested old mid) → (old.honest ≡ true → Spent polls old mid)
    → OnlyReads 1 mid new → OnlyReads most old new
polled_leaves polls most old mid new few nature sent rested count one =
    only_reads_more (polls + 1) most old new (omega (arith, few))
    (only_reads_then polls 1 old mid new record {
      nature = nature;
      sent = sent;
      honest_reads = λ honest. honest_reads_by old mid polls (rested honest) (count honest);
    } one)
