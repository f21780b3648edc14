-- If a file can't be read, the resulting fault is one that the contracts of the functions that read files allow.
use Rattle.std.proofs.Common.{ℕ, arith}
use Rattle.nor_args.specs.Text.{Text}
use Rattle.nor_files.specs.Files.{View}
use Rattle.nor_files.specs.Files.Failure.{Unread}
use Rattle.nor_console.specs.Files.{IsOpeningFault, IsReadingFault, IsSharingFault, IsUnreadFault}
use Rattle.nor_console.specs.Stored.{Happens}
use Rattle.nor_console.specs.declared.messages.Fault.{Fault}

module _ (view : View) (name : Text) (size : ℕ) (unread : Happens view (Unread name)) where
  pub unread_reading : (fault : Fault) → IsUnreadFault name fault → IsReadingFault view name size fault
  unread_reading fault is = grind arith

  pub unread_opening : (fault : Fault) → IsUnreadFault name fault → IsOpeningFault view name size fault
  unread_opening fault is = grind arith

pub reading_shares : (view : View) (name : Text) (most : ℕ) (fault : Fault) → IsReadingFault view name most fault
    → IsSharingFault view name most fault
reading_shares view name most fault is = grind arith
