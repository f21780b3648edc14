use Rattle.std.proofs.Common.{◌≡◌, ◌≤◌, ℕ, List, Result, length, drop, Some, [], refl, ap, arith}
use Rattle.std.proofs.lemmas.Bool.{le-ltb}
use Rattle.std.proofs.lemmas.List.{length-drop}
use Rattle.nor_layout.specs.declared.region.Region.{Region}
use Rattle.nor_maps.specs.declared.fault.MapFault.{MapFault}
use Rattle.nor_maps.specs.Records.{records_say, AsksAt, ReadsTable}
use Rattle.nor_maps.specs.Fmap.{area_count, fmap_length, first_fmap, with_area, fmap_says, AsksInFmap}
use Rattle.nor_maps.proofs.Tables.{reads_same}
use Rattle.nor_maps.proofs.fmap.read_fmap.Goals as goal

reads_image : (size : ℕ) (image map : List ℕ) → first_fmap image ≡ Some map → fmap_length map ≤ length map
    → (result : Result (List Region) MapFault)
    → ReadsTable (records_say (with_area size) 42 [] 1 (area_count map) (drop 56 map))
    (AsksAt (with_area size) 42 1 (drop 56 map)) result
    → ReadsTable (fmap_says size image) (AsksInFmap size image) result
reads_image size image map is whole result reads =
    reads_same _ (fmap_says size image) _ (AsksInFmap size image)
    (rw (is, le-ltb (length map) (fmap_length map) whole) refl) (λ number asks. (map, is, asks)) result reads

pub read_areas-requires : goal.read_areas-requires
read_areas-requires c =
    omega (arith, ap length c.rest_from.ensures, length-drop 56 c.in-Some.map.now, c.count_areas-count.ensures)

pub returns : goal.returns
returns c =
    let reads = rw (c.rest_from.ensures, c.count_areas-count.ensures) at c.read_areas.ensures in
    reads_image c.args.size c.args.bytes.now c.in-Some.map.now c.in-Some.ensures.first (omega arith) c.read_areas.result
    reads
