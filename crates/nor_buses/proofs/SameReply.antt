-- Lemmas: a chip returns the same reply if a read of an ID, of SFDP or of data is sent twice in a row.
use Rattle.std.proofs.Common.{◌≡◌, ◌∙◌, ◌<◌, ◌+◌, ◌%◌, ℕ, Bool, true, false, List, [], ◌∷◌, length, refl, sym, subst, ap, inl, inr}
use Rattle.std.specs.Prelude.{◌==◌, ◌||◌, if◌then◌else◌, slice_index_or}
use Rattle.std.proofs.lemmas.Bool.{eqb-true, false≢true}
use Rattle.std.proofs.lemmas.List.{ext_get_or}
use Rattle.nor_model.specs.Chip.{Chip, sfdp_byte}
use Rattle.nor_model.specs.declared.config.Config.{Config}
use Rattle.nor_model.specs.declared.command.Command.{Command}
use Rattle.nor_model.specs.declared.command.Command.TheVariants.{ReadData, ReadId, ReadSfdp, ReadUnique, Ignored}
use Rattle.nor_model.specs.Command.{address_of}
use Rattle.nor_model.specs.Step.{Step, Does, is_command, reply_byte}
use Rattle.nor_model.specs.Bus.{BusState, SameNature, IsHonestFor}
use Rattle.nor_buses.specs.Twice.{begins_read}

pub record Still (old new : Chip) : Type 0 where
  pub config : new.config ≡ old.config
  pub bytes : (a : ℕ) → new.bytes a ≡ old.bytes a
  pub busy : new.busy ≡ old.busy

abbrev pub IsReading : Command → Type 0
IsReading (ReadData at) = Unit {0}
IsReading ReadId = Unit {0}
IsReading (ReadSfdp at) = Unit {0}
IsReading ReadUnique = Unit {0}
IsReading Ignored = Unit {0}
IsReading _ = ⊥

abbrev pub read_of : (idle : Bool) → Command → Command
read_of idle command = if idle then command else Ignored

pub still_after_reading : (command : Command) (sent : List ℕ) (old mid : Chip) (first : List ℕ) → IsReading command
    → Does command sent old first mid → Still old mid
still_after_reading (ReadData at) sent old mid first is one = record { config = one.config; bytes = one.bytes; busy = one.busy }
still_after_reading ReadId sent old mid first is one = record { config = one.config; bytes = one.bytes; busy = one.busy }
still_after_reading (ReadSfdp at) sent old mid first is one = record { config = one.config; bytes = one.bytes; busy = one.busy }
still_after_reading ReadUnique sent old mid first is one = record { config = one.config; bytes = one.bytes; busy = one.busy }
still_after_reading Ignored sent old mid first is one = record { config = one.config; bytes = one.bytes; busy = one.busy }
still_after_reading _ sent old mid first is one = absurd is

same_byte : (command : Command) (old mid : Chip) → IsReading command → Still old mid → (i : ℕ)
    → reply_byte mid command i ≡ reply_byte old command i
same_byte (ReadData at) old mid is s i =
    ap (λ (c : Config). mid.bytes ((at + i) % c.size)) s.config ∙ s.bytes ((at + i) % old.config.size)
same_byte ReadId old mid is s i = ap (λ (c : Config). slice_index_or c.id i 255) s.config
same_byte (ReadSfdp at) old mid is s i = ap (λ (c : Config). sfdp_byte c (at + i)) s.config
same_byte ReadUnique old mid is s i = ap (λ (c : Config). slice_index_or c.unique i 255) s.config
same_byte Ignored old mid is s i = refl
same_byte _ old mid is s i = absurd is

pub reading_or_none : (idle : Bool) (command : Command) → IsReading command → IsReading (read_of idle command)
reading_or_none true command is = is
reading_or_none false command is = tt

pub alike : (command other : Command) (sent : List ℕ) (old mid new : Chip) (first again : List ℕ)
    → Does command sent old first mid → Does other sent mid again new → length again ≡ length first
    → ((i : ℕ) → reply_byte mid other i ≡ reply_byte old command i) → again ≡ first
alike command other sent old mid new first again one two len same =
    ext_get_or 0 again first len
    (λ (i : ℕ) (below : i < length again).
    two.replies i below ∙ same i ∙ sym (one.replies i (let P : ℕ → Type 0 = λ n. i < n in subst P len below)))

pub reading_alike : (make : Config → Command) (sent : List ℕ) (old mid new : Chip) (first again : List ℕ)
    → ((c : Config) → IsReading (make c)) → Does (read_of (old.busy == 0) (make old.config)) sent old first mid
    → Does (read_of (mid.busy == 0) (make mid.config)) sent mid again new → length again ≡ length first
    → again ≡ first
reading_alike make sent old mid new first again is one two len =
    let reads = reading_or_none (old.busy == 0) (make old.config) (is old.config) in
    let s = still_after_reading (read_of (old.busy == 0) (make old.config)) sent old mid first reads one in
    let command : read_of (mid.busy == 0) (make mid.config) ≡ read_of (old.busy == 0) (make old.config) =
    ap (λ (c : Config). read_of (mid.busy == 0) (make c)) s.config
    ∙ ap (λ (n : ℕ). read_of (n == 0) (make old.config)) s.busy in
    alike (read_of (old.busy == 0) (make old.config)) (read_of (mid.busy == 0) (make mid.config)) sent old mid new
    first again one two len
    (λ i. ap (λ (k : Command). reply_byte mid k i) command
    ∙ same_byte (read_of (old.busy == 0) (make old.config)) old mid reads s i)

same_reply_03 : (rest : List ℕ) (old mid new : Chip) (first again : List ℕ)
    → is_command old.config (0x03 ∷ rest) (length first) ≡ true → Step old (0x03 ∷ rest) first mid
    → Step mid (0x03 ∷ rest) again new → length again ≡ length first → again ≡ first
same_reply_03 (x ∷ y ∷ z ∷ []) old mid new first again is one two len =
    reading_alike (λ c. ReadData (address_of c x y z)) [] old mid new first again (λ c. tt) one two len
same_reply_03 [] old mid new first again is one two len = absurd (false≢true is)
same_reply_03 (x ∷ []) old mid new first again is one two len = absurd (false≢true is)
same_reply_03 (x ∷ y ∷ []) old mid new first again is one two len = absurd (false≢true is)
same_reply_03 (x ∷ y ∷ z ∷ b ∷ []) old mid new first again is one two len = absurd (false≢true is)
same_reply_03 (x ∷ y ∷ z ∷ b ∷ d ∷ rest) old mid new first again is one two len = absurd (false≢true is)

same_reply_9F : (rest : List ℕ) (old mid new : Chip) (first again : List ℕ)
    → is_command old.config (0x9F ∷ rest) (length first) ≡ true → Step old (0x9F ∷ rest) first mid
    → Step mid (0x9F ∷ rest) again new → length again ≡ length first → again ≡ first
same_reply_9F [] old mid new first again is one two len =
    reading_alike (λ c. ReadId) [] old mid new first again (λ c. tt) one two len
same_reply_9F (x ∷ []) old mid new first again is one two len = absurd (false≢true is)
same_reply_9F (x ∷ y ∷ []) old mid new first again is one two len = absurd (false≢true is)
same_reply_9F (x ∷ y ∷ z ∷ []) old mid new first again is one two len = absurd (false≢true is)
same_reply_9F (x ∷ y ∷ z ∷ b ∷ []) old mid new first again is one two len = absurd (false≢true is)
same_reply_9F (x ∷ y ∷ z ∷ b ∷ d ∷ rest) old mid new first again is one two len = absurd (false≢true is)

same_reply_5A : (rest : List ℕ) (old mid new : Chip) (first again : List ℕ)
    → is_command old.config (0x5A ∷ rest) (length first) ≡ true → Step old (0x5A ∷ rest) first mid
    → Step mid (0x5A ∷ rest) again new → length again ≡ length first → again ≡ first
same_reply_5A (x ∷ y ∷ z ∷ b ∷ []) old mid new first again is one two len =
    reading_alike (λ c. ReadSfdp (address_of c x y z)) (b ∷ []) old mid new first again (λ c. tt) one two len
same_reply_5A [] old mid new first again is one two len = absurd (false≢true is)
same_reply_5A (x ∷ []) old mid new first again is one two len = absurd (false≢true is)
same_reply_5A (x ∷ y ∷ []) old mid new first again is one two len = absurd (false≢true is)
same_reply_5A (x ∷ y ∷ z ∷ []) old mid new first again is one two len = absurd (false≢true is)
same_reply_5A (x ∷ y ∷ z ∷ b ∷ d ∷ rest) old mid new first again is one two len = absurd (false≢true is)

same_reply_4B : (rest : List ℕ) (old mid new : Chip) (first again : List ℕ)
    → is_command old.config (0x4B ∷ rest) (length first) ≡ true → Step old (0x4B ∷ rest) first mid
    → Step mid (0x4B ∷ rest) again new → length again ≡ length first → again ≡ first
same_reply_4B (x ∷ y ∷ z ∷ b ∷ []) old mid new first again is one two len =
    reading_alike (λ c. ReadUnique) (b ∷ []) old mid new first again (λ c. tt) one two len
same_reply_4B [] old mid new first again is one two len = absurd (false≢true is)
same_reply_4B (x ∷ []) old mid new first again is one two len = absurd (false≢true is)
same_reply_4B (x ∷ y ∷ []) old mid new first again is one two len = absurd (false≢true is)
same_reply_4B (x ∷ y ∷ z ∷ []) old mid new first again is one two len = absurd (false≢true is)
same_reply_4B (x ∷ y ∷ z ∷ b ∷ d ∷ rest) old mid new first again is one two len = absurd (false≢true is)

moved : (a n : ℕ) (rest : List ℕ) (old new : Chip) (answer : List ℕ) → (a == n) ≡ true → Step old (a ∷ rest) answer new
    → Step old (n ∷ rest) answer new
moved a n rest old new answer same step =
    let P : ℕ → Type 0 = λ k. Step old (k ∷ rest) answer new in subst P (eqb-true a n same) step

command_as : (a n : ℕ) (rest : List ℕ) (old : Chip) (answer : List ℕ) → (a == n) ≡ true
    → is_command old.config (a ∷ rest) (length answer) ≡ true → is_command old.config (n ∷ rest) (length answer) ≡ true
command_as a n rest old answer same is =
    let P : ℕ → Type 0 = λ k. is_command old.config (k ∷ rest) (length answer) ≡ true in subst P (eqb-true a n same) is

same_by : (a : ℕ) (rest : List ℕ) (old mid new : Chip) (first again : List ℕ) (data_read id_read sfdp_read : Bool)
    → (a == 0x03) ≡ data_read → (a == 0x9F) ≡ id_read → (a == 0x5A) ≡ sfdp_read
    → (data_read || id_read || sfdp_read || a == 0x4B) ≡ true → is_command old.config (a ∷ rest) (length first) ≡ true
    → Step old (a ∷ rest) first mid → Step mid (a ∷ rest) again new → length again ≡ length first → again ≡ first
same_by a rest old mid new first again true i f e e' e'' reads is one two len =
    same_reply_03 rest old mid new first again (command_as a 3 rest old first e is) (moved a 3 rest old mid first e one)
    (moved a 3 rest mid new again e two) len
same_by a rest old mid new first again false true f e e' e'' reads is one two len =
    same_reply_9F rest old mid new first again (command_as a 0x9F rest old first e' is)
    (moved a 0x9F rest old mid first e' one) (moved a 0x9F rest mid new again e' two) len
same_by a rest old mid new first again false false true e e' e'' reads is one two len =
    same_reply_5A rest old mid new first again (command_as a 0x5A rest old first e'' is)
    (moved a 0x5A rest old mid first e'' one) (moved a 0x5A rest mid new again e'' two) len
same_by a rest old mid new first again false false false e e' e'' reads is one two len =
    same_reply_4B rest old mid new first again (command_as a 0x4B rest old first reads is)
    (moved a 0x4B rest old mid first reads one) (moved a 0x4B rest mid new again reads two) len

pub same_reply : (out : List ℕ) (old mid new : Chip) (first again : List ℕ) → begins_read out ≡ true
    → is_command old.config out (length first) ≡ true → Step old out first mid → Step mid out again new
    → length again ≡ length first → again ≡ first
same_reply [] old mid new first again reads is one two len = absurd (false≢true reads)
same_reply (a ∷ rest) old mid new first again reads is one two len =
    same_by a rest old mid new first again (a == 0x03) (a == 0x9F) (a == 0x5A) refl refl refl reads is one two len

pub fits_again : (out : List ℕ) (m n : ℕ) (old new : BusState) → SameNature old new → n ≡ m → IsHonestFor out m old
    → IsHonestFor out n new
fits_again out m n old new nature same fits = record {
  honest = nature.honest ∙ fits.honest;
  fits = elim fits.fits [
    | inl unlimited ↦ inl (nature.unlimited ∙ unlimited)
    | inr short ↦ inr (short.0, rw (same, nature.longer) short.1)
  ];
}
