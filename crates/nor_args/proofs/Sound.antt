use Rattle.std.proofs.Common.{◌≡◌, arith, ◌&&◌, ◌||◌, ℕ, Bool, true, false, List, [], ◌∷◌, Option, None, is_some}
use Rattle.std.specs.Prelude.{option_and_then}
use Rattle.nor_args.specs.Text.{Text, reads}
use Rattle.nor_args.specs.Given.{Texts, asks_change, is_new_content}
use Rattle.nor_args.specs.Faults.{Case, first_fault, has_wrong_journal, has_wrong_regions, has_wrong_value, is_no}
use Rattle.nor_args.specs.Faults.{passes_test, usage_faults}
use Rattle.nor_args.specs.Numbers.{range_of}
use Rattle.nor_args.specs.Programmer.{has_stop}
use Rattle.nor_args.specs.Stops.{stops_of}
use Rattle.nor_args.specs.Job.{IsWantedByArguments}
use Rattle.nor_args.specs.declared.job.Wanted.{Wanted}
use Rattle.nor_args.specs.declared.words.UsageFault.TheVariants as why

abbrev pub cases : (a b c d e f g h : Bool) → List Case
cases a b c d e f g h = (a, why.NoProgrammer) ∷ (b, why.Programmer) ∷ (c, why.TwoOperations) ∷ (d, why.Range)
    ∷ (e, why.Journal) ∷ (f, why.Layout) ∷ (g, why.Unneeded) ∷ (h, why.Stops) ∷ []

-- Holds if the options have none of the faults 5, 6, 7 and 9.
pub record Sound (given : Texts) : Type 0 where
  pub value : has_wrong_value given ≡ false
  pub journal : has_wrong_journal given ≡ false
  pub regions : has_wrong_regions given ≡ false
  pub stops : (is_no (reads stops_of) given.rehearse || (is_some given.rehearse && passes_test has_stop given.programmer))
      ≡ false

none-holds : (a b c d e f g h : Bool) → first_fault (cases a b c d e f g h) ≡ None
    → (d ≡ false) × (e ≡ false) × (f ≡ false) × (h ≡ false)
none-holds a b c d e f g h none = grind arith

pub sound-none : (given : Texts) → first_fault (usage_faults given) ≡ None → Sound given
sound-none given none =
    let no = none-holds _ _ _ _ _ _ _ _ none in record { value = no.0; journal = no.1; regions = no.2; stops = no.3 }

pub no_change-wanted : (given : Texts) → Sound given → is_new_content given ≡ false
    → option_and_then range_of given.wp_range ≡ None → asks_change given ≡ false
no_change-wanted given sound same none = grind arith

change-wanted : (given : Texts) (wanted : Wanted) → IsWantedByArguments given wanted → asks_change given ≡ true
change-wanted given wanted is = grind arith

rehearsed : (given : Texts) → has_wrong_journal given ≡ false → asks_change given ≡ true → given.journal ≡ None
    → is_some given.rehearse ≡ true
rehearsed given sound asks journal = grind arith

parsed : (text : Option Text) (stops : Option (List ℕ)) (stopped : Bool)
    → (is_no (reads stops_of) text || (is_some text && stopped)) ≡ false → is_some text ≡ true
    → option_and_then stops_of text ≡ stops → is_some stops ≡ true
parsed text stops stopped sound some same = grind arith

pub stops-kept : (given : Texts) (wanted : Wanted) (stops : Option (List ℕ)) → Sound given
    → IsWantedByArguments given wanted → option_and_then stops_of given.rehearse ≡ stops
    → given.journal ≡ None → is_some stops ≡ true
stops-kept given wanted stops sound is same journal = parsed given.rehearse stops _ sound.stops
    (rehearsed given sound.journal (change-wanted given wanted is) journal) same
