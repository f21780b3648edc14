use Rattle.std.proofs.Common.{◌≡◌, ◌∙◌, ℕ, ◌⊎◌, Bool, true, false, not, ◌&&◌, leb, eqb, ltb, List, [], ◌∷◌, ◌++◌}
use Rattle.std.proofs.Common.{length, Option, Some, None, Result, Ok, Err, IfSome, if◌then◌else◌, refl, ap, inl, inr}
use Rattle.std.proofs.Common.{arith}
use Rattle.std.specs.List.{list_all}
use Rattle.std.proofs.lemmas.Bool.{cases_Bool, cond_both, eq-eqb, ltb-false, le-ltb, and_parts}
use Rattle.std.proofs.lemmas.Bool.Decides.{nat_tests}
use Rattle.nor_layout.specs.declared.region.Region.{Region}
use Rattle.nor_layout.specs.declared.fault.LineFault.{LineFault}
use Rattle.nor_layout.specs.declared.fault.LineFault.TheVariants.{Backwards, Name}
use Rattle.nor_layout.specs.Address.{is_hex_digit, digits_of, are_digits, digits_address}
use Rattle.nor_layout.specs.Line.{cut_at, without_spaces, with_start, parts_after, is_name_byte, is_name, region_of}
use Rattle.nor_layout.specs.Line.{parts_say, line_says}
use Rattle.nor_layout.specs.Grammar.{IsAddress, IsLine}

passes : {A E : Type 0} (bad good : Bool) (x y : A) (first second : E)
    → (if bad then Err first else if good then Ok x else Err second) ≡ Ok y → (bad ≡ false) × (good ≡ true) × (x ≡ y)
passes bad good x y first second e = grind arith

digits_of-is : (text : List ℕ) → (text ≡ digits_of text) ⊎ (text ≡ 48 ∷ 120 ∷ digits_of text)
digits_of-is text = grind (arith, nat_tests)

address_of-found : (text : List ℕ) → IfSome (digits_address text) (IsAddress text)
address_of-found text = cond_both (are_digits (digits_of text)) _ _ (λ found. IfSome found (IsAddress text))
    (λ is. record { digits = digits_of text; text_is = digits_of-is text; hexadecimal = is; address_is = refl })
    (λ other. tt)

digits_of-digits : (digits : List ℕ) → list_all is_hex_digit digits ≡ true → digits_of digits ≡ digits
digits_of-digits digits all = grind (arith, nat_tests)

address_of-taken : (text : List ℕ) (address : ℕ) → IsAddress text address → digits_address text ≡ Some address
address_of-taken text address is = grind (arith, nat_tests, digits_of-digits is.digits)

abbrev IsCut : ℕ → List ℕ → List ℕ × List ℕ → Type 0
IsCut byte text parts = text ≡ parts.0 ++ byte ∷ parts.1

cut_at-is : (byte : ℕ) (text : List ℕ) → IfSome (cut_at byte text) (IsCut byte text)
cut_at-is byte [] = tt
cut_at-is byte (b ∷ text) = grind (arith, nat_tests, cut_at-is byte text)

abbrev lacks : ℕ → List ℕ → Bool
lacks byte text = list_all (λ b. not (eqb b byte)) text

cut_at-taken : (byte : ℕ) (front rest : List ℕ) → lacks byte front ≡ true → cut_at byte (front ++ byte ∷ rest) ≡ Some (front, rest)
cut_at-taken byte [] rest lacking = rw (eq-eqb byte byte refl) refl
cut_at-taken byte (b ∷ front) rest lacking = grind (arith, nat_tests, cut_at-taken byte front rest)

leading : (text : List ℕ)
    → (spaces : List ℕ) × (text ≡ spaces ++ without_spaces text) × (list_all (λ b. eqb b 32) spaces ≡ true)
leading [] = ([], refl, refl)
leading (b ∷ text) = elim (cases_Bool (eqb b 32)) [
  | inl space ↦
      let rest = leading text in
      (b ∷ rest.0, rw space (ap (λ (t : List ℕ). b ∷ t) rest.1), rw space rest.2)
  | inr other ↦ ([], rw other refl, refl)
]

without_spaces-taken : (spaces name : List ℕ) → list_all (λ b. eqb b 32) spaces ≡ true
    → list_all is_name_byte name ≡ true
    → without_spaces (spaces ++ name) ≡ name
without_spaces-taken [] [] blank all = refl
without_spaces-taken [] (b ∷ name) blank all = grind (arith, nat_tests)
without_spaces-taken (b ∷ spaces) name blank all = grind (arith, nat_tests, without_spaces-taken spaces name)

digits_lack : (byte : ℕ) → is_hex_digit byte ≡ false → (digits : List ℕ) → list_all is_hex_digit digits ≡ true
    → lacks byte digits ≡ true
digits_lack byte other [] all = refl
digits_lack byte other (digit ∷ digits) all = grind (arith, nat_tests, digits_lack byte other digits)

address_lacks : (byte : ℕ) → is_hex_digit byte ≡ false → eqb 120 byte ≡ false → eqb 48 byte ≡ false
    → (text : List ℕ) (address : ℕ)
    → IsAddress text address → lacks byte text ≡ true
address_lacks byte other no_x no_0 text address is = grind (arith, nat_tests, digits_lack byte other is.digits)

pub line_says-taken : (line : List ℕ) (region : Region) → IsLine line region → line_says line ≡ Ok region
line_says-taken line region is =
    let name = region.name.items in
    let no_colon = address_lacks 58 refl refl refl is.start_text region.start is.start_is in
    let no_space = address_lacks 32 refl refl refl is.end_text region.end is.end_is in
    let first = cut_at-taken 58 is.start_text (is.end_text ++ 32 ∷ (is.spaces ++ name)) no_colon in
    let second = cut_at-taken 32 is.end_text (is.spaces ++ name) no_space in
    let named = (and_parts (leb 1 (length name) && leb (length name) 32) (list_all is_name_byte name) is.named).1 in
    let third = without_spaces-taken is.spaces name is.blank named in
    let start = address_of-taken is.start_text region.start is.start_is in
    let end = address_of-taken is.end_text region.end is.end_is in
    let forward = le-ltb region.end region.start is.forward in
    rw (is.line_is, first, second, third, start, end, forward, is.named) refl

some_of : {A : Type 0} (P : A → Type 0) (o : Option A) (gives : Option A → Result Region LineFault) (region : Region)
    → IfSome o P → ¬ (gives None ≡ Ok region) → gives o ≡ Ok region → (x : A) × P x × (gives (Some x) ≡ Ok region)
some_of P o gives region is none e = grind arith

pub line_says-found : (line : List ℕ) (region : Region) → line_says line ≡ Ok region → IsLine line region
line_says-found line region e =
    let first = some_of (IsCut 58 line) (cut_at 58 line) (λ cut. parts_say (parts_after cut)) region
    (cut_at-is 58 line) (λ none. cc) e in
    let later = first.0.1 in
    let second = some_of (IsCut 32 later) (cut_at 32 later) (λ cut. parts_say (with_start first.0.0 cut)) region
    (cut_at-is 32 later) (λ none. cc) first.2 in
    let name = without_spaces second.0.1 in
    let start = some_of (IsAddress first.0.0) (digits_address first.0.0)
    (λ start. region_of start (digits_address second.0.0) name) region (address_of-found first.0.0) (λ none. cc)
    second.2 in
    let end = some_of (IsAddress second.0.0) (digits_address second.0.0)
    (λ end. region_of (Some start.0) end name) region (address_of-found second.0.0) (λ none. cc) start.2 in
    let made : Region = record { start = start.0; end = end.0; name = record { items = name } } in
    let is = passes (ltb end.0 start.0) (is_name name) made region Backwards Name end.2 in
    let front = leading second.0.1 in
    rw (← is.2) (record {
      start_text = first.0.0;
      end_text = second.0.0;
      spaces = front.0;
      line_is = first.1 ∙ ap (λ t. first.0.0 ++ 58 ∷ t) (second.1 ∙ ap (λ t. second.0.0 ++ 32 ∷ t) front.1);
      start_is = start.1;
      end_is = end.1;
      forward = ltb-false end.0 start.0 is.0;
      blank = front.2;
      named = is.1;
    })
