-- The faults of comparing the files of a run with each other and with the standard streams.
use Rattle.std.specs.Prelude.{◌≡◌, ◌⊎◌, true, Option, IsSomeAnd}
use Rattle.std.specs.Borrow.{Bor}
use Rattle.nor_args.specs.Text.{Text}
use Rattle.nor_files.specs.Disk.{IsStreamName}
use Rattle.nor_files.specs.Files.{Nature}
use Rattle.nor_files.specs.Files.Failure.{Printed, Shared, Unread}
use Rattle.nor_console.specs.declared.messages.Fault.{Fault}
use Rattle.nor_console.specs.declared.messages.Fault.TheVariants as end
use Rattle.nor_console.specs.declared.messages.FileFault.TheVariants as file

-- Holds if this is file fault 5 with the name `later`, if both names are given, and if they may refer to one file.
abbrev pub IsShared : Nature → (earlier later : Option (Bor Text)) → Fault → Type 0
IsShared nature earlier later (end.File file.Taken of cause) = IsSomeAnd earlier (λ one. IsSomeAnd later (λ other.
    (of.now ≡ other.now) × (nature.fails (Shared one.now other.now) ≡ true)))
IsShared nature earlier later _ = ⊥

-- Holds if this is file fault 5 with the name `named`, and the program may print to this file.
abbrev pub IsPrintedTo : Nature → Option (Bor Text) → Fault → Type 0
IsPrintedTo nature named (end.File file.Taken of cause) = IsSomeAnd named (λ name.
    (of.now ≡ name.now) × (nature.fails (Printed name.now) ≡ true))
IsPrintedTo nature named _ = ⊥

abbrev pub IsUnseenFile : Nature → Option (Bor Text) → Fault → Type 0
IsUnseenFile nature named (end.File file.Read of cause) = IsSomeAnd named (λ name.
    (of.now ≡ name.now) × (nature.fails (Unread of.now) ≡ true))
IsUnseenFile nature named _ = ⊥

abbrev pub FailsApart : Nature → (earlier later : Option (Bor Text)) → Fault → Type 0
FailsApart nature earlier later fault = IsShared nature earlier later fault
    ⊎ (IsUnseenFile nature earlier fault ⊎ IsUnseenFile nature later fault)

abbrev pub FailsUnprinted : Nature → Option (Bor Text) → Fault → Type 0
FailsUnprinted nature name fault = IsPrintedTo nature name fault ⊎ IsUnseenFile nature name fault

abbrev pub IsUnseenStream : Nature → Fault → Type 0
IsUnseenStream nature (end.File file.Read of cause) = IsStreamName of.now × (nature.fails (Unread of.now) ≡ true)
IsUnseenStream nature _ = ⊥
