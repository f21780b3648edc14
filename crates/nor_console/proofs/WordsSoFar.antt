use Rattle.std.proofs.Common.{◌≡◌, ℕ, ◌+◌, ◌++◌, ◌<◌, ◌≤◌, List, drop, get_or, length}
use Rattle.std.proofs.lemmas.List.{append_assoc, append-nil, drop_all, drop_more}
use Rattle.nor_console.specs.LayoutWords.{in_words, kept_in_words, place_after}
use Rattle.nor_console.specs.declared.layout_words.Place.{Place}

pub words_more : (text words : List ℕ) (i : ℕ) (before : Place) → i < length text
    → (words ++ kept_in_words before (get_or text i 0)) ++ in_words (place_after before (get_or text i 0)) (drop (i + 1) text) ≡ words ++ in_words before (drop i text)
unfolding in_words
words_more text words i before lt = rw (drop_more text i 0 lt)
    (append_assoc words (kept_in_words before (get_or text i 0)) _)

pub words_end : (text words : List ℕ) (i : ℕ) (before : Place) → length text ≤ i
    → words ++ in_words before (drop i text) ≡ words
unfolding in_words
words_end text words i before all = rw (drop_all i text all) (append-nil words)
