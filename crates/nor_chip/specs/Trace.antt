use Rattle.std.specs.Prelude.{◌≡◌, ◌++◌, ◌==◌, ℕ, Bool, true, false, List, [], Option, Result, OnOk, OnErr, length, codes, decimal, nat_lt, if◌then◌else◌}
use Rattle.std.specs.Io.KnownBytes.{Appends}
use Rattle.hex.specs.Hex.{encode_lower}
use Rattle.nor_chip.specs.declared.trace.TraceBus.{TraceBus}
use Rattle.nor_model.specs.declared.bus.Stopped.{Stopped}

abbrev pub traced_by : {B L : Type 0} → TraceBus B L → B
traced_by traced = traced.bus

abbrev pub log_of : {B L : Type 0} → TraceBus B L → L
log_of traced = traced.log

abbrev pub has_lost : {B L : Type 0} → TraceBus B L → Bool
has_lost traced = traced.lost

abbrev pub reply_digits : List ℕ → List ℕ
reply_digits answer =
    if length answer == 0 then []
    else if nat_lt 3 (length answer) then codes " > " ++ decimal (length answer) ++ codes " bytes"
    else codes " > " ++ encode_lower answer

abbrev pub traced_line : (out answer : List ℕ) → List ℕ
traced_line out answer = encode_lower out ++ reply_digits answer ++ codes "\n"

pub record Traces {B L : Type 0} (contents : L → Option (List ℕ)) (out answer : List ℕ) (outcome : Result Unit Stopped)
    (old new : TraceBus B L) : Type 0 where
  pub still_lost : has_lost old ≡ true → has_lost new ≡ true
  pub no_line : OnErr outcome (log_of new ≡ log_of old)
  pub none_lost : OnErr outcome (has_lost new ≡ has_lost old)
  pub line : OnOk outcome
      (has_lost new ≡ false → Appends (contents (log_of old)) (contents (log_of new)) (traced_line out answer))
