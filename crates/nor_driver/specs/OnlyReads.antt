use Rattle.std.specs.Prelude.{◌≡◌, ◌≢◌, ◌≤◌, ◌<◌, ◌+◌, ◌⊎◌, ℕ, true, false}
use Rattle.nor_model.specs.Chip.{IsSame}
use Rattle.nor_model.specs.Power.{is_in_work, KeptCut}
use Rattle.nor_model.specs.History.{EndsStopped}
use Rattle.nor_model.specs.Bus.{BusState, KeepsNature}

-- Holds if the bus is steady or its chip is idle. A stop then can't interrupt an operation that began before the call.
abbrev pub IsSteadyOrIdle : BusState → Type 0
IsSteadyOrIdle state = (state.steady ≡ true) ⊎ (state.chip.busy ≡ 0)

-- Holds after a call on a well-behaved bus, if the call neither began nor interrupted an operation.
pub record Unchanged (old new : BusState) : Type 0 where
  pub same : IsSame old.chip new.chip
  pub running : new.chip.running ≡ old.chip.running
  pub busy : new.chip.busy ≤ old.chip.busy
  pub worn : (s : ℕ) → new.worn s ≡ old.worn s

-- Holds at every exit of a call on a well-behaved bus, if the call began no operation. Unless `IsSteadyOrIdle` held
-- before the call, a stop may have interrupted the operation in progress.
pub record KeepsChip (old new : BusState) : Type 0 where
  pub config : new.chip.config ≡ old.chip.config
  pub steady_or_idle : IsSteadyOrIdle old → IsSame old.chip new.chip
  pub bytes : (a : ℕ) → is_in_work old.chip.running a ≡ false → new.chip.bytes a ≡ old.chip.bytes a
  pub kept : KeptCut old.chip.running old.chip.kept new.chip.kept
  pub running : new.chip.busy ≢ 0 → new.chip.running ≡ old.chip.running
  pub busy : new.chip.busy ≤ old.chip.busy
  pub worn : (s : ℕ) → new.worn s ≡ old.worn s

-- Holds after reads that succeeded on a well-behaved bus.
pub record Rested (old new : BusState) : Type 0 where
  pub unchanged : Unchanged old new
  pub latch : new.chip.latch ≡ true → old.chip.latch ≡ true
  pub idle_latch : old.chip.busy ≡ 0 → new.chip.latch ≡ old.chip.latch

abbrev pub Spent : (transactions : ℕ) → (old new : BusState) → Type 0
Spent transactions old new = old.punctual ≡ true → old.left ≡ new.left + transactions

pub record HasFallen (most : ℕ) (old new : BusState) : Type 0 where
  pub fell : new.left ≤ old.left
  pub bound : old.left ≤ new.left + most

abbrev pub Falls : (most : ℕ) → (old new : BusState) → Type 0
Falls most old new = old.punctual ≡ true → HasFallen most old new

pub record OnlyReadsHonest (most : ℕ) (old new : BusState) : Type 0 where
  pub stays : KeepsChip old new
  pub latch : new.chip.latch ≡ true → old.chip.latch ≡ true
  pub idle_latch : old.steady ≡ true → old.chip.busy ≡ 0 → new.chip.latch ≡ old.chip.latch
  pub falls : Falls most old new

-- Holds at every exit of a call that only reads, in which a well-behaved, punctual bus carries out at most `most`
-- transactions.
pub record OnlyReads (most : ℕ) (old new : BusState) : Type 0 where
  pub nature : KeepsNature old new
  pub sent : new.sent ≡ old.sent
  pub honest_reads : old.honest ≡ true → OnlyReadsHonest most old new

pub record HasRunOut (needed : ℕ) (old new : BusState) : Type 0 where
  pub none_left : new.left ≡ 0
  pub below : old.left < needed

abbrev pub RanOut : (needed : ℕ) → (old new : BusState) → Type 0
RanOut needed old new = old.punctual ≡ true → HasRunOut needed old new

-- Holds if the bus stopped at the last transaction of a call. Before the call, a well-behaved, punctual bus had fewer
-- than `needed` transactions left.
pub record HasStopped (needed : ℕ) (old new : BusState) : Type 0 where
  pub last : EndsStopped new.history
  pub ran_out : old.honest ≡ true → RanOut needed old new

pub record IsOpen (size : ℕ) (state : BusState) : Type 0 where
  pub honest : state.honest ≡ true
  pub idle : state.chip.busy ≡ 0
  pub same : state.chip.config.size ≡ size
