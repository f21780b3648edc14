-- The value of `--rehearse`: the most transactions that the session, then the first restore, and so on may send.
use Rattle.std.specs.Prelude.{◌&&◌, ℕ, List, Option, Some, None, length, filter_map, nat_le, if◌then◌else◌}
use Rattle.std.specs.List.{list_all}
use Rattle.nor_args.specs.Text.{Text, pieces_of, reads}
use Rattle.nor_args.specs.Numbers.{decimal_number}

abbrev pub stops_of : Text → Option (List ℕ)
stops_of text =
    if list_all (reads decimal_number) (pieces_of text) && nat_le (length (pieces_of text)) 64
    then Some (filter_map decimal_number (pieces_of text)) else None
