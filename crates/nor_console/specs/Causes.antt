-- The lines with the causes of file faults, byte by byte.
use Rattle.std.specs.Prelude.{ℕ, List, [], ◌∷◌, codes, decimal}
use Rattle.std.specs.List.{concat}
use Rattle.nor_args.specs.Text.{Text}
use Rattle.nor_console.specs.Escapes.{escaped}
use Rattle.nor_console.specs.declared.causes.Cause.{Cause}
use Rattle.nor_console.specs.declared.causes.Cause.TheVariants as because
use Rattle.nor_console.specs.declared.causes.SystemReason.{SystemReason}
use Rattle.nor_console.specs.declared.causes.SystemReason.TheVariants as system
use Rattle.nor_console.specs.declared.messages.FileFault.{FileFault}
use Rattle.nor_console.specs.declared.messages.FileFault.TheVariants as file
use Rattle.nor_console.specs.declared.roles.Role.{Role}
use Rattle.nor_console.specs.declared.roles.Role.TheVariants as role

abbrev pub system_text : SystemReason → List ℕ
system_text system.Missing = codes "there is no such file"
system_text system.NoDirectory = codes "there is no such directory"
system_text system.Directory = codes "it is a directory"
system_text system.Denied = codes "permission denied"
system_text system.ReadOnly = codes "the file system is read-only"
system_text system.Full = codes "no space is left on the disk"
system_text system.Busy = codes "something else uses it"
system_text system.Loop = codes "too many links, or a loop of links"
system_text system.LongName = codes "the name is too long"
system_text system.InputOutput = codes "input/output error"
system_text system.Other = codes "the system refused it"

abbrev pub role_text : Role → List ℕ
role_text role.Image = codes "image="
role_text role.Status = codes "status="
role_text role.Trace = codes "trace="
role_text role.Layout = codes "the layout of -l"
role_text role.Wanted = codes "the image of -w or -v"
role_text role.Output = codes "the file of -r"
role_text role.Journal = codes "the journal"

abbrev pub verb_of : FileFault → List ℕ
verb_of file.Read = codes "read"
verb_of _ = codes "written"

abbrev pub system_line : FileFault → Text → SystemReason → List ℕ
system_line fault name system.Missing = concat (codes "error: there is no file '" ∷ escaped name ∷ codes "'\n" ∷ [])
system_line fault name system.Directory = concat (codes "error: '" ∷ escaped name ∷ codes "' is a directory\n" ∷ [])
system_line fault name reason = concat (codes "error: '" ∷ escaped name ∷ codes "' can't be " ∷ verb_of fault
    ∷ codes ": " ∷ system_text reason ∷ codes "\n" ∷ [])

-- the line with the cause of a file fault, or no bytes if the cause is unknown
abbrev pub cause_line : FileFault → Text → Cause → List ℕ
cause_line fault name because.Unknown = []
cause_line fault name (because.System reason) = system_line fault name reason
cause_line fault name because.Unwritable = concat (codes "error: '" ∷ escaped name
    ∷ codes "' can't be overwritten: it is read-only, no regular file, or can't be locked\n" ∷ [])
cause_line fault name because.Endless =
    concat (codes "error: a read of '" ∷ escaped name ∷ codes "' might never end\n" ∷ [])
cause_line fault name because.LongLayout =
    concat (codes "error: the layout '" ∷ escaped name ∷ codes "' has more than 16 MiB\n" ∷ [])
cause_line fault name (because.Length wanted found) = concat (codes "error: '" ∷ escaped name ∷ codes "' has "
    ∷ decimal found ∷ codes " bytes instead of " ∷ decimal wanted ∷ codes "\n" ∷ [])
cause_line fault name (because.TooLong wanted) =
    concat (codes "error: '" ∷ escaped name ∷ codes "' has more than the " ∷ decimal wanted
    ∷ codes " bytes that it must have\n" ∷ [])
cause_line fault name because.Exists =
    concat (codes "error: '" ∷ escaped name ∷ codes "' exists already, and a journal never overwrites a file\n" ∷ [])
cause_line fault name because.Journal =
    concat (codes "error: '" ∷ escaped name ∷ codes "' is a journal, which is never overwritten\n" ∷ [])
cause_line fault name (because.Role used) =
    concat (codes "error: '" ∷ escaped name ∷ codes "' is already used as " ∷ role_text used ∷ codes "\n" ∷ [])
cause_line fault name because.Locked =
    concat (codes "error: another process has locked '" ∷ escaped name ∷ codes "'\n" ∷ [])
cause_line fault name because.Replaced =
    concat (codes "error: another program removed or replaced '" ∷ escaped name ∷ codes "'\n" ∷ [])
cause_line fault name because.Printed =
    concat (codes "error: the program prints to '" ∷ escaped name ∷ codes "'\n" ∷ [])
