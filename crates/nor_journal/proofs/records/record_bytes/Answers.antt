use Rattle.std.proofs.Common.{◌≡◌, ◌∙◌, rules}
use Rattle.std.proofs.lemmas.List.{append-nil}
use Rattle.nor_journal.specs.Text.{record_text}
use Rattle.nor_journal.proofs.Heads.{put_after}
use Rattle.nor_journal.proofs.records.record_bytes.Goals as goal

pub returns : goal.returns
unfolding record_text
returns c =
    let copied : c.copy_from_slice-2.new.self ≡ c.args.bytes.now = search rules in
    put_after 4 4096 c.copy_from_slice.new.self _ _ c.copy_from_slice.ensures.len
    ∙ rw (c.copy_from_slice.ensures.after, c.number_bytes.ensures, copied) (append-nil _)
