use Rattle.std.proofs.Common.{◌≡◌, ◌≤◌, ◌+◌, ◌*◌, ℕ, List, Result, length, drop, Some, [], refl, sym, arith}
use Rattle.std.proofs.lemmas.Bool.{le-ltb}
use Rattle.nor_layout.specs.declared.region.Region.{Region}
use Rattle.nor_maps.specs.declared.fault.MapFault.{MapFault}
use Rattle.nor_maps.specs.Records.{records_say, AsksAt, ReadsTable}
use Rattle.nor_maps.specs.Descriptor.{signature_at, region_table, entry_count, with_entry, descriptor_says}
use Rattle.nor_maps.specs.Descriptor.{AsksInDescriptor}
use Rattle.nor_maps.proofs.Tables.{reads_same}
use Rattle.nor_maps.proofs.descriptor.read_descriptor.Goals as goal

reads_image : (size : ℕ) (image : List ℕ) (signature : ℕ) → 4096 ≤ length image → signature_at image ≡ Some signature
    → region_table signature image + 4 * entry_count signature image ≤ 4096
    → (result : Result (List Region) MapFault)
    → ReadsTable (records_say (with_entry size) 4 [] 0 (entry_count signature image)
    (drop (region_table signature image) image))
    (AsksAt (with_entry size) 4 0 (drop (region_table signature image) image)) result
    → ReadsTable (descriptor_says size image) (AsksInDescriptor size image) result
reads_image size image signature long is whole result reads =
    let not_long = le-ltb (length image) 4096 long in
    let fits = le-ltb 4096 (region_table signature image + 4 * entry_count signature image) whole in
    reads_same _ (descriptor_says size image) _ (AsksInDescriptor size image) (rw (not_long, is, fits) refl)
    (λ number asks. (signature, is, asks)) result reads

pub returns-clause-reads : goal.returns-clause-reads
returns-clause-reads c =
    let table = c.table_address-address.ensures.value in
    let count = c.count_entries-count.ensures.value in
    let reads = rw (c.rest_from.ensures, table, count) at c.read_entries.ensures.reads in
    let signature = c.in-Some.signature in
    reads_image c.args.size c.args.bytes.now signature (omega arith)
    (sym c.in-Some.ensures.found)
    (rw (← table, ← count) (omega arith)) c.read_entries.result reads
