-- Proofs: what nor_session promises about the chip as a bus over a port shows it (`seen`) holds for the programmer's
-- chip, too.
use Rattle.std.proofs.Common.{◌≡◌, ◌∙◌, ◌<◌, ◌/◌, ℕ, Bool, true, false, List, [], length, refl, sym, ap, subst, arith, inl, inr}
use Rattle.std.specs.Prelude.{Option, Result, Ok, Err}
use Rattle.std.proofs.lemmas.List.{append-nil}
use Rattle.std.specs.Prelude.{◌&&◌}
use Rattle.std.proofs.lemmas.Bool.{false≢true, or_right}
use Rattle.std.specs.Prelude.{IfErr}
use Rattle.nor_model.specs.Chip.{Chip, IsSame}
use Rattle.nor_model.specs.Power.{PowerLost}
use Rattle.nor_model.specs.Step.{is_idle}
use Rattle.nor_model.specs.Bus.{BusState}
use Rattle.nor_model.specs.Exchange.{Exchange}
use Rattle.nor_model.specs.Sent.{sent_in}
use Rattle.nor_driver.specs.OnlyReads.{RanOut}
use Rattle.nor_driver.specs.StatusWrites.{fixed_of}
use Rattle.nor_journal.specs.Text.{Content, IsContent, text}
use Rattle.nor_journal.proofs.OneForm.{one_text}
use Rattle.nor_journal.specs.Vault.{VaultState}
use Rattle.nor_probe.specs.declared.table.ChipName.{ChipName}
use Rattle.nor_probe.specs.Known.{IsModelled}
use Rattle.nor_apply.specs.Within.{WorksIn}
use Rattle.nor_request.specs.declared.request.Request.{Request}
use Rattle.nor_request.specs.declared.report.Report.{Report}
use Rattle.nor_request.specs.declared.refusal.Refusal.{Refusal}
use Rattle.nor_request.specs.declared.refusal.Refusal.TheVariants.{NoChip, UnknownChip, OtherName, ImageSize, RegionOutside, NoProtection, UndefinedProtection, RangeNotOffered, StatusLocked, Protected, Vault, Stopped, Timeout, Mismatch, BadJournal, OtherChip, StatusDiffers, Memory, Output, OtherUnit}
use Rattle.nor_session.specs.Bounds.{most_of, most_reads}
use Rattle.nor_session.specs.Headline.{CanRestore, KeepsOriginal, RestoresOriginal, RewritesOriginal, open_addresses}
use Rattle.nor_session.specs.Made.{IsTargetChip}
use Rattle.nor_session.specs.Session.{HonestErrors, SessionErrors, SessionModelled, SessionAlways}
use Rattle.nor_session.specs.Restore.{Choice, IsCheckedFirst, AlwaysBy, ErrorsBy, RestoreErrors, RestoreHonest, RestoreModelled, RewriteHonest, RewriteModelled, differing, every_saved}
use Rattle.nor_session.specs.Backup.{BackupErrors, BackupHonest, BackupModelled}
use Rattle.nor_session.proofs.InTurn.{lost_can_restore}
use Rattle.nor_session.proofs.WrittenBack.{known_kept}
use Rattle.nor_serprog.specs.Device.{PortState}
use Rattle.nor_serprog.specs.Bus.{over_port}
use Rattle.nor_serprog.specs.Enabled.{enabled}
use Rattle.serprog_session.specs.Headline.{ReachesGenuine, CanRestoreChip, CanRestoreChipFrom, HadFewCalls, SessionFails, KeepsOriginalChip, SessionResults, FailsBy, RefusesUnsent, RestoresOriginalChip, RewritesOriginalChip, BackupFails, SavesChipOver, uncounted}

-- The state of a bus to the port's chip. If a write enable is held back (`waits`), an idle chip's latch counts as set.
abbrev pub seen : BusState → (waits : Bool) → PortState → BusState
seen state waits port = record state { chip = enabled waits port.device.chip }

-- Holds if a bus over a port holds back no write enable at first and isn't steady later; the fields say more.
pub record IsOver (old new : PortState) (waits waits' : Bool) (bus bus' : BusState) : Type 0 where
  pub empty : waits ≡ false
  pub further : bus'.further ≡ bus.further
  pub honest : old.honest ≡ true → bus.honest ≡ true
  pub unsteady : bus'.steady ≡ false
  pub few : (transactions : ℕ) → 0 < transactions
      → RanOut transactions (seen bus waits old) (seen bus' waits' new) → HadFewCalls transactions old

pub serprog : (further further' : Bool) (old new : PortState) (history history' : List Exchange) → further' ≡ further
    → IsOver old new false false (over_port further old history) (over_port further' new history')
serprog further further' old new history history' kept = record {
  empty = refl;
  further = kept;
  honest = λ honest. honest;
  unsteady = refl;
  few = λ transactions some ran. let below = (ran refl).below in omega arith;
}

pub unpunctual : (old new : PortState) (waits waits' : Bool) (bus bus' : BusState) → waits ≡ false
    → (old.honest ≡ true → bus.honest ≡ true) → bus'.steady ≡ false → bus'.further ≡ bus.further
    → IsOver (uncounted old) new waits waits' bus bus'
unpunctual old new waits waits' bus bus' empty honest unsteady further = record {
  empty = empty;
  further = further;
  honest = honest;
  unsteady = unsteady;
  few = λ transactions some ran. omega (arith, some);
}

pub still_reaches : (further : Bool) (port : PortState) → ReachesGenuine further port
    → ReachesGenuine further (uncounted port)
still_reaches further port reaches = record { honest = reaches.honest; genuine = reaches.genuine }

pub modelled : (old new : PortState) (waits waits' : Bool) (bus bus' : BusState)
    → IsOver old new waits waits' bus bus' → ReachesGenuine bus.further old → IsModelled (seen bus waits old)
modelled old new waits waits' bus bus' over reaches =
    record { honest = over.honest reaches.honest; genuine = reaches.genuine }

same_seen : (waits : Bool) (first chip : Chip) → IsSame first (enabled waits chip) → IsSame first chip
same_seen waits first chip same = record { config = same.config; bytes = same.bytes; kept = same.kept }

target_seen : (waits : Bool) (wanted : ℕ → ℕ) (first chip : Chip) → IsTargetChip wanted first (enabled waits chip)
    → IsTargetChip wanted first chip
target_seen waits wanted first chip made = record {
  config = made.config;
  bytes = made.bytes;
  fixed = made.fixed;
  idle = made.idle;
  latch = λ set. made.latch (or_right (waits && is_idle chip) chip.latch set);
}

pub on_every_bus : (further : Bool) (journal : Content) (first : Chip) (bus : BusState) (waits : Bool)
    (port : PortState) → bus.steady ≡ false → bus.further ≡ further → CanRestore journal first (seen bus waits port)
    → CanRestoreChip further journal first port.device.chip
on_every_bus further journal first bus waits port unsteady is can = λ other same kept. record {
  known = known_kept first (kept ∙ sym is) can.known;
  saves = can.saves;
  within = record {
    config = ap (λ (c : Chip). c.config) same ∙ can.within.config;
    bytes = λ a outside. ap (λ (c : Chip). c.bytes a) same ∙ can.within.bytes a outside;
    fixed = ap (λ (c : Chip). fixed_of c.kept) same ∙ can.within.fixed;
    kept = λ locked. ap (λ (c : Chip). c.kept) same ∙ can.within.kept locked;
    runs = λ any busy.
        let P : Chip → Type 0 = λ c. WorksIn (open_addresses journal first) first c.running in
        subst P (sym same)
        (can.within.runs unsteady (λ idle. busy (ap (λ (c : Chip). c.busy) same ∙ idle)));
  };
}

from_every_bus : (journal : Content) (first : Chip) (bus : BusState) (port : PortState)
    → CanRestoreChip bus.further journal first port.device.chip → CanRestore journal first (seen bus false port)
from_every_bus journal first bus port can = can (seen bus false port) refl refl

pub read_from : (further : Bool) (bytes : List ℕ) (first chip : Chip) (journal : Content)
    → CanRestoreChipFrom further bytes first chip → IsContent journal → bytes ≡ text journal
    → CanRestoreChip further journal first chip
read_from further bytes first chip journal from is read =
    let same : from.journal.content ≡ journal =
    (one_text from.journal.content journal [] [] from.journal.is is
    (append-nil (text from.journal.content) ∙ sym from.journal.same ∙ read ∙ sym (append-nil (text journal)))).0 in
    let P : Content → Type 0 = λ j. CanRestoreChip further j first chip in
    subst P same from.back

pub lost_from_chip : (further : Bool) (journal : Content) (first old new : Chip)
    → CanRestoreChip further journal first old → PowerLost old new → CanRestoreChip further journal first new
lost_from_chip further journal first old new can lost = λ state same none.
    let before : BusState = record state { chip = old; steady = false } in
    let P : Chip → Type 0 = λ c. PowerLost old c in
    lost_can_restore journal first before state (can before refl none)
    (record { further = refl; known = inl refl; lost = subst P (sym same) lost })

some_calls : (sectors : ℕ) → 0 < most_of sectors
some_calls sectors = omega arith

some_reads : (sectors : ℕ) → 0 < most_reads sectors
some_reads sectors = omega arith

waits_never : (old new : PortState) (waits' : Bool) (bus bus' : BusState) → IsOver old new true waits' bus bus' → ⊥
waits_never old new waits' bus bus' over = false≢true (sym over.empty)

pub keeps : (old new : PortState) (waits waits' : Bool) (bus bus' : BusState) (vault : VaultState)
    → IsOver old new waits waits' bus bus'
    → KeepsOriginal (seen bus waits old) (seen bus' waits' new) vault
    → KeepsOriginalChip bus.further old new bus.sent bus'.sent vault
keeps old new true waits' bus bus' vault over keep = absurd (waits_never old new waits' bus bus' over)
keeps old new false waits' bus bus' vault over keep = record {
  unsent = keep.unsent;
  same = λ unsealed honest idle.
      same_seen waits' old.device.chip new.device.chip (keep.same unsealed (over.honest honest) (inr idle));
  restorable = λ sealed telling reaches.
      let from = keep.restorable sealed telling (modelled old new false waits' bus bus' over reaches) in
      record {
        journal = from.journal;
        back = on_every_bus bus.further from.journal.content old.device.chip bus' waits' new over.unsteady over.further
            from.back;
      };
}

fails : (request : Request) (image : List ℕ) (old new : PortState) (waits' : Bool) (bus bus' : BusState)
    (vault vault' : VaultState) (refusal : Refusal) → IsOver old new false waits' bus bus'
    → SessionErrors request image (seen bus false old) (seen bus' waits' new) vault vault' refusal
    → SessionFails bus.further request image old vault vault' refusal
fails request image old new waits' bus bus' vault vault' Vault over is = is
fails request image old new waits' bus bus' vault vault' Stopped over is =
    over.few _ (some_calls (old.device.chip.config.size / 4096)) is
fails request image old new waits' bus bus' vault vault' _ over is = is

pub results : (request : Request) (image : List ℕ) (old new : PortState) (waits waits' : Bool) (bus bus' : BusState)
    (vault vault' : VaultState) (result : Result Report Refusal) → IsOver old new waits waits' bus bus'
    → SessionAlways request image (seen bus waits old) (seen bus' waits' new) vault vault' result
    → SessionModelled request image (seen bus waits old) (seen bus' waits' new) vault vault' result
    → SessionResults bus.further request image old new vault vault' result
results request image old new true waits' bus bus' vault vault' result over always made =
    absurd (waits_never old new waits' bus bus' over)
results request image old new false waits' bus bus' vault vault' (Ok report) over always made = record {
  done = record {
    made = target_seen waits' _ old.device.chip new.device.chip made.done.made;
    code = made.done.code;
    is_wanted = made.done.is_wanted;
    kept = made.done.kept;
  };
  sealed = always.ends.sealed;
  errors = tt;
  unsealed = tt;
  accepted = λ sealed. (made.undo sealed).accepted;
}
results request image old new false waits' bus bus' vault vault' (Err refusal) over always made = record {
  done = tt;
  sealed = tt;
  errors = fails request image old new waits' bus bus' vault vault' refusal over made.errors;
  unsealed = always.answers.unsealed;
  accepted = λ sealed. (made.undo sealed).accepted;
}

pub refuses : (choice : Choice) (journal : Content) (old new : BusState) (result : Result Report Refusal)
    → AlwaysBy choice journal old new result → IfErr result (RefusesUnsent old.sent new.sent)
refuses choice journal old new (Ok report) always = tt
refuses choice journal old new (Err NoChip) always = (always.only_reads refl).sent
refuses choice journal old new (Err (UnknownChip fault)) always = (always.only_reads refl).sent
refuses choice journal old new (Err OtherChip) always = (always.only_reads refl).sent
refuses choice journal old new (Err OtherUnit) always = (always.only_reads refl).sent
refuses choice journal old new (Err StatusDiffers) always = (always.only_reads refl).sent
refuses choice journal old new (Err StatusLocked) always = (always.only_reads refl).sent
refuses choice journal old new (Err Stopped) always = tt
refuses choice journal old new (Err (Timeout address)) always = tt
refuses choice journal old new (Err (Mismatch address)) always = tt
refuses choice journal old new (Err OtherName) always = absurd (false≢true always.answers)
refuses choice journal old new (Err (ImageSize chip image)) always = absurd (false≢true always.answers)
refuses choice journal old new (Err RegionOutside) always = absurd (false≢true always.answers)
refuses choice journal old new (Err NoProtection) always = absurd (false≢true always.answers)
refuses choice journal old new (Err UndefinedProtection) always = absurd (false≢true always.answers)
refuses choice journal old new (Err RangeNotOffered) always = absurd (false≢true always.answers)
refuses choice journal old new (Err (Protected address)) always = absurd (false≢true always.answers)
refuses choice journal old new (Err Vault) always = absurd (false≢true always.answers)
refuses choice journal old new (Err (BadJournal fault)) always = absurd (false≢true always.answers)
refuses choice journal old new (Err Memory) always = absurd (false≢true always.answers)
refuses choice journal old new (Err (Output written)) always = absurd (false≢true always.answers)

restore_fails : (choice : Choice) (journal : Content) (old new : PortState) (waits' : Bool) (bus bus' : BusState)
    (refusal : Refusal) → IsOver old new false waits' bus bus'
    → ErrorsBy choice journal (seen bus false old) (seen bus' waits' new) refusal
    → FailsBy bus.further choice journal old refusal
restore_fails choice journal old new waits' bus bus' Stopped over is =
    over.few _ (some_calls (length journal.saved)) is
restore_fails choice journal old new waits' bus bus' _ over is = is

same_refused : (most : ℕ) (old new : BusState) (refusal : Refusal) → HonestErrors most IsCheckedFirst old new refusal
    → IsCheckedFirst refusal → IsSame old.chip new.chip
same_refused most old new Stopped is checked = absurd (false≢true checked)
same_refused most old new (Timeout address) is checked = absurd is
same_refused most old new _ is checked = is checked

pub restores : (journal : Content) (old new : PortState) (waits waits' : Bool) (bus bus' : BusState)
    (result : Result Report Refusal) → IsOver old new waits waits' bus bus'
    → RestoresOriginal journal (seen bus waits old) (seen bus' waits' new) result
    → RestoreHonest journal (seen bus waits old) (seen bus' waits' new) result
    → RestoreModelled journal (seen bus waits old) (seen bus' waits' new) result
    → RestoresOriginalChip bus.further journal old new result
restores journal old new true waits' bus bus' result over back fair made =
    absurd (waits_never old new waits' bus bus' over)
restores journal old new false waits' bus bus' (Ok report) over back fair made = record {
  within = λ first can.
      on_every_bus bus.further journal first bus' waits' new over.unsteady over.further
      (back.within first (from_every_bus journal first bus old can));
  back = λ first can.
      same_seen waits' first new.device.chip (back.back first (from_every_bus journal first bus old can));
  idle = made.done.made.idle;
  only_stops = λ first can. tt;
  made = target_seen waits' _ old.device.chip new.device.chip made.done.made;
  kept = made.done.kept;
  errors = tt;
  same = tt;
}
restores journal old new false waits' bus bus' (Err refusal) over back fair made = record {
  within = λ first can.
      on_every_bus bus.further journal first bus' waits' new over.unsteady over.further
      (back.within first (from_every_bus journal first bus old can));
  back = λ first can. tt;
  idle = tt;
  only_stops = λ first can.
      let stopped = back.only_stops first (from_every_bus journal first bus old can) in
      let P : Refusal → Type 0 =
      λ r. RestoreErrors journal (seen bus false old) (seen bus' waits' new) r in
      let ran = subst P stopped made.errors in
      (stopped, over.few (most_of (length journal.saved)) (some_calls (length journal.saved)) ran);
  made = tt;
  kept = tt;
  errors = restore_fails differing journal old new waits' bus bus' refusal over made.errors;
  same = λ checked.
      same_seen waits' old.device.chip new.device.chip
      (same_refused (most_of (length journal.saved)) (seen bus false old) (seen bus' waits' new) refusal
      fair.honest_errors checked);
}

pub rewrites : (journal : Content) (old new : PortState) (waits waits' : Bool) (bus bus' : BusState)
    (result : Result Report Refusal) → IsOver old new waits waits' bus bus'
    → RewritesOriginal journal (seen bus waits old) (seen bus' waits' new) result
    → RewriteHonest journal (seen bus waits old) (seen bus' waits' new) result
    → RewriteModelled journal (seen bus waits old) (seen bus' waits' new) result
    → RewritesOriginalChip bus.further journal old new result
rewrites journal old new true waits' bus bus' result over back fair made =
    absurd (waits_never old new waits' bus bus' over)
rewrites journal old new false waits' bus bus' (Ok report) over back fair made = record {
  within = λ first can.
      on_every_bus bus.further journal first bus' waits' new over.unsteady over.further
      (back.within first (from_every_bus journal first bus old can));
  back = λ first can.
      same_seen waits' first new.device.chip (back.back first (from_every_bus journal first bus old can));
  idle = made.done.made.idle;
  only_stops = λ first can unlocked. tt;
  made = target_seen waits' _ old.device.chip new.device.chip made.done.made;
  kept = made.done.kept;
  errors = tt;
  same = tt;
}
rewrites journal old new false waits' bus bus' (Err refusal) over back fair made = record {
  within = λ first can.
      on_every_bus bus.further journal first bus' waits' new over.unsteady over.further
      (back.within first (from_every_bus journal first bus old can));
  back = λ first can. tt;
  idle = tt;
  only_stops = λ first can unlocked.
      let stopped = back.only_stops first (from_every_bus journal first bus old can) unlocked in
      let P : Refusal → Type 0 =
      λ r. ErrorsBy every_saved journal (seen bus false old) (seen bus' waits' new) r in
      let ran = subst P stopped made.errors in
      (stopped, over.few (most_of (length journal.saved)) (some_calls (length journal.saved)) ran);
  made = tt;
  kept = tt;
  errors = restore_fails every_saved journal old new waits' bus bus' refusal over made.errors;
  same = λ checked.
      same_seen waits' old.device.chip new.device.chip
      (same_refused (most_of (length journal.saved)) (seen bus false old) (seen bus' waits' new) refusal
      fair.honest_errors checked);
}

backup_fails : (named : Option ChipName) (old new : PortState) (waits' : Bool) (bus bus' : BusState)
    (refusal : Refusal) → IsOver old new false waits' bus bus'
    → BackupErrors (most_reads (old.device.chip.config.size / 4096)) named (seen bus false old)
    (seen bus' waits' new) refusal → BackupFails bus.further named old refusal
backup_fails named old new waits' bus bus' Stopped over is =
    over.few _ (some_reads (old.device.chip.config.size / 4096)) is
backup_fails named old new waits' bus bus' _ over is = is

pub saves : (named : Option ChipName) (old new : PortState) (waits waits' : Bool) (bus bus' : BusState)
    (vault : VaultState) (result : Result Report Refusal) → IsOver old new waits waits' bus bus'
    → BackupHonest named (seen bus waits old) (seen bus' waits' new) result
    → BackupModelled named (seen bus waits old) (seen bus' waits' new) vault result
    → SavesChipOver bus.further named old new vault result
saves named old new true waits' bus bus' vault result over fair made =
    absurd (waits_never old new waits' bus bus' over)
saves named old new false waits' bus bus' vault (Ok report) over fair made = record {
  errors = tt;
  same = same_seen waits' old.device.chip new.device.chip fair.same;
  saves = made.saves;
  restorable = λ telling.
      let from = made.restorable telling in
      record {
        journal = from.journal;
        back = on_every_bus bus.further from.journal.content old.device.chip bus' waits' new over.unsteady over.further
            from.back;
      };
}
saves named old new false waits' bus bus' vault (Err refusal) over fair made = record {
  errors = backup_fails named old new waits' bus bus' refusal over made.errors;
  same = tt;
  saves = tt;
  restorable = tt;
}
