-- Definitions for the layers over a `BatchingBus`, which contracts use.
use Rattle.std.specs.Prelude.{◌≡◌, ◌≤◌, ◌+◌, Bool, true, false}
use Rattle.nor_model.specs.declared.bus.Bus.{Ghosts}
use Rattle.nor_buses.specs.declared.ahead.ReadAhead.{ReadAhead}
use Rattle.nor_buses.specs.declared.kept_quad.KeptQuad.{KeptQuad}
use Rattle.nor_buses.specs.declared.other_makers.OtherMakers.{OtherMakers}
use Rattle.nor_buses.specs.declared.known_status2.KnownStatus2.{KnownStatus2}
use Rattle.nor_buses.specs.declared.same_chip.SameChip.{SameChip}
use Rattle.nor_buses.specs.declared.twice.ReadTwice.{ReadTwice}
use Rattle.nor_buses.specs.declared.status.CheckedStatus.{CheckedStatus}
use Rattle.nor_buses.specs.declared.splitting.SplittingBus.{SplittingBus}
use Rattle.nor_buses.specs.declared.watched.Watched.{Watched}
use Rattle.nor_buses.specs.declared.paced.Paced.{Paced}
use Rattle.nor_buses.specs.Ahead.{ahead_of, longest_of}
use Rattle.nor_buses.specs.Adapted.{keeps_replies}
use Rattle.nor_buses.specs.Bit6.{keeps_bit6}
use Rattle.nor_buses.specs.Checked.{bus_of}
use Rattle.nor_buses.specs.KeptQuad.{kept_by, rows_of, hides_of}
use Rattle.nor_buses.specs.KnownStatus2.{known_by, ids_of, before_of}
use Rattle.nor_buses.specs.Listed.{is_listed_chip}
use Rattle.nor_buses.specs.OtherMakers.{adapted_by, rows_of as listed_by}
use Rattle.nor_buses.specs.Paced.{paced_of}
use Rattle.nor_buses.specs.SameChip.{checked_by}
use Rattle.nor_buses.specs.Splitting.{split_of, sends_most, receives_most, reads_longer, takes_whole}
use Rattle.nor_buses.specs.Twice.{twice_of}
use Rattle.nor_buses.specs.Watched.{watched_by}
use Rattle.nor_serprog.specs.declared.batching.BatchingBus.{BatchingBus}
use Rattle.nor_serprog.specs.declared.port.Port.{Ghosts as PortGhosts}
use Rattle.nor_serprog.specs.Batching.{port_in, waits_of}

-- The layers `KnownStatus2`, `ReadTwice` and `CheckedStatus`, over a bus `S` that splits transactions.
abbrev pub Known : (S : Type 0) (over : Ghosts S) → Ghosts (ReadTwice (CheckedStatus S over)) → Type 0
Known S over twice = KnownStatus2 (ReadTwice (CheckedStatus S over)) twice

-- The layers `OtherMakers` and `KeptQuad`, over the layers from `KnownStatus2` down.
abbrev pub Adapted : (B : Type 0) → Ghosts B → Type 0
Adapted B below = OtherMakers (KeptQuad B below)

-- The layer `OtherMakers`, which changes replies of other makers' chips, below `ReadAhead` and `SameChip`.
abbrev pub other_below : {B : Type 0} {below : Ghosts B} {ahead : Ghosts (SameChip (Adapted B below))}
    → ReadAhead (SameChip (Adapted B below)) ahead → Adapted B below
other_below stack = checked_by (ahead_of stack)

abbrev pub kept_below : {B : Type 0} {below : Ghosts B} {ahead : Ghosts (SameChip (Adapted B below))}
    → ReadAhead (SameChip (Adapted B below)) ahead → KeptQuad B below
kept_below stack = adapted_by (other_below stack)

-- The layer `KnownStatus2`, which sends 35h only to a chip that is known to return status 2 for it.
abbrev pub known_in : {B : Type 0} {below : Ghosts B} {ahead : Ghosts (SameChip (Adapted B below))}
    → ReadAhead (SameChip (Adapted B below)) ahead → B
known_in stack = kept_by (kept_below stack)

-- The layer `SplittingBus`, which splits transactions, below the layers that check them.
abbrev pub splitting_in : {S : Type 0} {over : Ghosts S} {twice : Ghosts (ReadTwice (CheckedStatus S over))}
    {below : Ghosts (Known S over twice)} {ahead : Ghosts (SameChip (Adapted (Known S over twice) below))}
    → ReadAhead (SameChip (Adapted (Known S over twice) below)) ahead → S
splitting_in stack = bus_of (twice_of (known_by (known_in stack)))

abbrev pub batching_below : {B C : Type 0} {over : Ghosts (SplittingBus (Watched (Paced B C)))}
    {twice : Ghosts (ReadTwice (CheckedStatus (SplittingBus (Watched (Paced B C))) over))}
    {below : Ghosts (Known (SplittingBus (Watched (Paced B C))) over twice)}
    {ahead : Ghosts (SameChip (Adapted (Known (SplittingBus (Watched (Paced B C))) over twice) below))}
    → ReadAhead (SameChip (Adapted (Known (SplittingBus (Watched (Paced B C))) over twice) below)) ahead → B
batching_below stack = paced_of (watched_by (split_of (splitting_in stack)))

-- The layers from the port `P` up to `SplittingBus`.
abbrev pub Split : (P X C : Type 0) → PortGhosts P X → Type 0
Split P X C port = SplittingBus (Watched (Paced (BatchingBus P X port) C))

abbrev pub port_below : {P X C : Type 0} {port : PortGhosts P X} {over : Ghosts (Split P X C port)}
    {twice : Ghosts (ReadTwice (CheckedStatus (Split P X C port) over))}
    {below : Ghosts (Known (Split P X C port) over twice)}
    {ahead : Ghosts (SameChip (Adapted (Known (Split P X C port) over twice) below))}
    → ReadAhead (SameChip (Adapted (Known (Split P X C port) over twice) below)) ahead → P
port_below stack = port_in (batching_below stack)

-- Holds if the stack fits the programmer and its chip, and holds back no write enable. Over a well-behaved port, such a
-- stack is a well-behaved bus (`stack_is_well_behaved`).
pub record IsFit {P X C : Type 0} {port : PortGhosts P X} {over : Ghosts (Split P X C port)}
    {twice : Ghosts (ReadTwice (CheckedStatus (Split P X C port) over))}
    {below : Ghosts (Known (Split P X C port) over twice)}
    {ahead : Ghosts (SameChip (Adapted (Known (Split P X C port) over twice) below))}
    (stack : ReadAhead (SameChip (Adapted (Known (Split P X C port) over twice) below)) ahead) : Type 0 where
  pub whole : takes_whole (sends_most (splitting_in stack)) (receives_most (splitting_in stack)) ≡ true
  pub blocks : longest_of stack ≤ 4096 + reads_longer (receives_most (splitting_in stack)) true 0
  pub known : is_listed_chip (ids_of (known_in stack)) (before_of (known_in stack))
      (port.state (port_below stack)).device.chip.config ≡ true
  pub bit6 : keeps_bit6 (rows_of (kept_below stack)) (hides_of (kept_below stack))
      (port.state (port_below stack)).device.chip.config ≡ true
  pub replies : keeps_replies (listed_by (other_below stack)) (port.state (port_below stack)).device.chip.config ≡ true
  pub empty : waits_of (batching_below stack) ≡ false
