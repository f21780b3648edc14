-- The errors that a call on a file may return. They depend on the store's `Nature`, its properties that never change.
use Rattle.std.specs.Prelude.{◌≡◌, true, ⊤}
use Rattle.nor_files.specs.Files.{Name, Nature}
use Rattle.nor_files.specs.Files.Failure.{Busy, There, Unheld, Unmade, Unread}
use Rattle.nor_files.specs.declared.store.LockFault.{LockFault}
use Rattle.nor_files.specs.declared.store.LockFault.TheVariants as fault
use Rattle.nor_files.specs.declared.store.CreateFault.{CreateFault}
use Rattle.nor_files.specs.declared.store.CreateFault.TheVariants as make

abbrev pub IsLockFault : Nature → Name → LockFault → Type 0
IsLockFault nature name (fault.Unread error) = nature.fails (Unread name) ≡ true
IsLockFault nature name fault.Unheld = nature.fails (Unheld name) ≡ true
IsLockFault nature name fault.Busy = nature.fails (Busy name) ≡ true

abbrev pub IsCreateFault : Nature → Name → CreateFault → Type 0
IsCreateFault nature name make.There = nature.fails (There name) ≡ true
IsCreateFault nature name make.Busy = nature.fails (Busy name) ≡ true
IsCreateFault nature name (make.Unmade error) = nature.fails (Unmade name) ≡ true
IsCreateFault nature name make.Memory = ⊤
