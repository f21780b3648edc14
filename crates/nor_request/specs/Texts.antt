use Rattle.std.specs.Prelude.{ℕ, ◌-◌, false, List, [], ◌∷◌, ◌++◌, codes, decimal, length, replicate}
use Rattle.std.specs.Fmt.{digits}
use Rattle.std.specs.List.{concat}
use Rattle.nor_journal.specs.Fault.{journal_fault_number as journal_number}
use Rattle.nor_probe.specs.Sfdp.{sfdp_fault_number as sfdp_number}
use Rattle.nor_request.specs.declared.refusal.Refusal.{Refusal}
use Rattle.nor_request.specs.declared.refusal.Refusal.TheVariants.{NoChip, UnknownChip, OtherName, ImageSize, RegionOutside, NoProtection, UndefinedProtection, RangeNotOffered, StatusLocked, Protected, Vault, Stopped, Timeout, Mismatch, BadJournal, OtherChip, StatusDiffers, Memory, Output, OtherUnit}

abbrev pub hex_digits : (width number : ℕ) → List ℕ
hex_digits width number = replicate (width - length (digits 16 false number)) 48 ++ digits 16 false number

abbrev pub address : ℕ → List ℕ
address place = codes "0x" ++ hex_digits 6 place

abbrev pub refusal_text : Refusal → List ℕ
refusal_text NoChip = codes "no chip"
refusal_text (UnknownChip fault) = codes "unknown chip, SFDP fault " ++ decimal (sfdp_number fault)
refusal_text OtherName = codes "another chip than named"
refusal_text (ImageSize chip image) =
    concat (codes "image of " ∷ decimal image ∷ codes " bytes, chip of " ∷ decimal chip ∷ codes " bytes" ∷ [])
refusal_text RegionOutside = codes "region outside the chip"
refusal_text NoProtection = codes "no protection on this chip"
refusal_text UndefinedProtection = codes "undefined protection"
refusal_text RangeNotOffered = codes "range not offered"
refusal_text StatusLocked = codes "status locked"
refusal_text (Protected at) = codes "protected at " ++ address at
refusal_text Vault = codes "journal not written"
refusal_text Stopped = codes "stopped"
refusal_text (Timeout at) = codes "timeout at " ++ address at
refusal_text (Mismatch at) = codes "bytes differ at " ++ address at
refusal_text (BadJournal fault) = codes "journal fault " ++ decimal (journal_number fault)
refusal_text OtherChip = codes "another chip than the journal's"
refusal_text StatusDiffers = codes "status differs from the journal's"
refusal_text Memory = codes "out of memory"
refusal_text (Output written) = concat (codes "output failed after " ∷ decimal written ∷ codes " bytes" ∷ [])
refusal_text OtherUnit = codes "another unit than the journal's"
