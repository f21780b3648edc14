-- What the files hold after a run that changes a chip: at every exit, and after success.
use Rattle.std.proofs.Common.{◌≡◌, ◌<◌, ◌∙◌, ℕ, Bool, List, Option, None, Some}
use Rattle.std.proofs.Common.{Result, Ok, ap, arith, inr, length, refl, sym, true}
use Rattle.std.specs.Borrow.{Bor}
use Rattle.std.proofs.lemmas.List.{get_or_past}
use Rattle.nor_model.specs.Bus.{BusState}
use Rattle.nor_model.specs.Chip.{status_of}
use Rattle.nor_model.proofs.Kept.{kept_in-status_of}
use Rattle.nor_model.specs.declared.config.Config.{Config}
use Rattle.nor_probe.specs.declared.table.ChipName.{ChipName}
use Rattle.nor_files.specs.Files.{AreAtRest, FilesState, Found, IsDurable, KeepsFile, View, is_lawful}
use Rattle.nor_journal.specs.Text.{text}
use Rattle.nor_request.specs.declared.refusal.Refusal.{Refusal}
use Rattle.nor_request.specs.declared.request.Request.{Request}
use Rattle.nor_session.specs.WrittenOver.{IsWrittenOver}
use Rattle.nor_args.specs.Text.{Text}
use Rattle.nor_layout.specs.declared.ranges.Span.{Span}
use Rattle.nor_args.specs.declared.job.Change.{Change}
use Rattle.nor_args.specs.declared.job.ChipJob.{ChipJob}
use Rattle.nor_args.specs.declared.job.JournalUse.{JournalUse}
use Rattle.nor_args.specs.declared.job.JournalUse.TheVariants as uses
use Rattle.nor_args.specs.declared.job.Task.{Task}
use Rattle.nor_args.specs.declared.job.Task.TheVariants as task
use Rattle.flashnor.specs.Changes.{HasMadeChange}
use Rattle.nor_console.specs.Stored.{IsKeptFile, AreTwo, IsNot}
use Rattle.flashnor.specs.Chips.{AreWrittenBack, IsContentOf, OpensChip}
use Rattle.nor_jobs.specs.Sources.{IsAskedOf}
use Rattle.flashnor.specs.Endings.{all_written}
use Rattle.flashnor.specs.Found.{emulated_part}
use Rattle.flashnor.specs.Holding.{AreAmid, AreHeld, AreReady, IsReadyIfNamed, MakesDurable, FillsMissing, was}
use Rattle.flashnor.specs.Left.{IsNoFileOf, IsOpenedFrom, IsRestorableFrom, LeavesAsLong, MayFind, Opened}
use Rattle.nor_console.specs.Requests.{AreRangesOf, request_for}
use Rattle.flashnor.specs.Roles.{FilesHaveOneRole}
use Rattle.nor_console.specs.Tasks.{image_of, layout_of, named_by, journal_of, made_by}
use Rattle.flashnor.specs.Run.{DoesJob, HoldsChange, HoldsTask, IsViewBut, KeepsChange, KeepsFiles}
use Rattle.flashnor.specs.Tasks.{keeps_journal, writes_back}
use Rattle.nor_console.specs.declared.answers.Answer.{Answer}
use Rattle.flashnor.specs.declared.holding.Held.{Held}
use Rattle.flashnor.specs.declared.holding.Unwritten.{Unwritten}
use Rattle.flashnor.proofs.Before.{image_made, status_made}
use Rattle.flashnor.proofs.Stays.{StayApart, known_at_rest, not_that, rest_on}
use Rattle.nor_console.proofs.Lent.{lawful_after, stays_on}
use Rattle.flashnor.proofs.Traced.{missing_before, reads_before}
use Rattle.flashnor.proofs.AfterCall.{buffer_before, kept_after, ranges_before}
use Rattle.flashnor.proofs.Reopened.{as_long, found_either, opened_many, opened_size}

module _ (job : ChipJob) (held : Held) (s0 s1 s2 : FilesState) (bus bus' : BusState)
    (roles : FilesHaveOneRole s0.view.nature job) (read : IsContentOf s0.view job.programmer held.content)
    (opens : OpensChip job.programmer held.content bus)
    (rest : AreAtRest s0) (are_held : AreHeld job.programmer held s0 s1)
    (nature1 : s1.view.nature ≡ s0.view.nature) (nature2 : s2.view.nature ≡ s1.view.nature)
    (stay : is_lawful s1.view ≡ true → StayApart job.programmer.trace (made_by job.task) s1 s2)
    (setup : bus'.chip.config ≡ bus.chip.config) where
  at_rest : AreAtRest s1
  at_rest = rest_on nature1 rest are_held.stay

  abbrev first : Opened job.programmer s0
  first = record { content = held.content; read = read; bus = bus; opens = opens }

  status_many : length held.content.status ≡ 2
  status_many = grind arith

  ready : (name : Option (Bor Text)) (there : Bool) (had put : List ℕ)
      → AreTwo s0.view.nature name job.programmer.trace → AreTwo s0.view.nature name (made_by job.task)
      → MakesDurable name (was there had) s1 → length had ≡ length put
      → IsReadyIfNamed name there had put s2
  ready name there had put traced other durable many = grind arith

  pub ready_both : AreReady job.programmer held.image_there held.status_there held.content.bytes.items
      held.content.status bus'.chip s2
  ready_both = record {
    image = λ put are. ready job.programmer.image held.image_there _ put roles.image_trace
        (image_made s0.view.nature job roles)
        are_held.image (opened_many first ∙ sym (ap (λ (c : Config). c.size) setup) ∙ sym are.len);
    status = ready job.programmer.status held.status_there _ (status_of bus'.chip) roles.status_trace
        (status_made s0.view.nature job roles) are_held.status status_many;
  }

  module _ (s3 : FilesState) (amid : View) (fills_missing : FillsMissing job.programmer held) (small : bus'.chip.kept.two < 128)
      (but : IsViewBut job.programmer.trace s0.view amid)
      (last : is_lawful s2.view ≡ true → StayApart job.programmer.image job.programmer.status s2 s3)
      (is_amid : AreAmid job.programmer held.image_there held.status_there held.content.bytes.items
      held.content.status bus'.chip s3) where
    put_len : length is_amid.put ≡ bus.chip.config.size
    put_len = grind arith

    image_whole : LeavesAsLong job.programmer.image s0 s3
    image_whole =
        as_long job.programmer.image held.image_there _ _ s0 s1 s3 are_held.stay are_held.image
        (opened_many first ∙ sym put_len) is_amid.image

    status_whole : LeavesAsLong job.programmer.status s0 s3
    status_whole =
        as_long job.programmer.status held.status_there _ _ s0 s1 s3 are_held.stay are_held.status status_many
        is_amid.status

    over : (image status : Found) (later : BusState) → MayFind job.programmer.image read.bytes.found image s3
        → MayFind job.programmer.status read.status.found status s3 → IsOpenedFrom image status bus.chip.config later
        → IsWrittenOver bus.chip bus'.chip later.chip
    over image status later can can_status from =
        let holds = opens.holds in
        let byte = found_either s0.view job.programmer.image _ _ _ is_amid.put read.bytes held.image_there s3 image
        fills_missing.image is_amid.image can (grind (arith, put_len, from.whole)) in
        let bit = found_either s0.view job.programmer.status _ _ _ (status_of bus'.chip) read.status held.status_there s3
        status fills_missing.status is_amid.status can_status from.two in
        let in_status = kept_in-status_of bus'.chip small in
        record {
          config = from.config;
          bytes = λ a. grind (
            arith,
            byte a,
            opened_size first,
            from.bytes a,
            holds.bytes a,
            is_amid.are.at a,
            put_len,
            opened_many first,
            get_or_past is_amid.put a 0,
            get_or_past held.content.bytes.items a 0,
          );
          one = grind (arith, bit 0, from.kept, holds.kept, in_status);
          two = grind (arith, bit 1, from.kept, holds.kept, in_status);
          idle = from.idle;
        }

    call_stays : (made : Option (Bor Text)) → StayApart job.programmer.trace made s1 s2 → (name : Text)
        → IsNot s0.view.nature job.programmer.trace name → IsNot s0.view.nature made name → KeepsFile name s1 s2
    call_stays made stay' name traced other = grind arith

    last_stays : (name : Text) → IsNot s0.view.nature job.programmer.image name
        → IsNot s0.view.nature job.programmer.status name → KeepsFile name s2 s3
    last_stays name image status = grind arith

    file_stays : (file : Bor Text) → AreTwo s0.view.nature job.programmer.image (Some file)
        → AreTwo s0.view.nature job.programmer.status (Some file) → KeepsFile file.now s2 s3
    file_stays file one other =
        last_stays file.now (not_that s0.view.nature job.programmer.image file one)
        (not_that s0.view.nature job.programmer.status file other)

    others_stay : (made : Option (Bor Text)) → StayApart job.programmer.trace made s1 s2 → (name : Text)
        → IsNoFileOf s0.view.nature job.programmer name → IsNot s0.view.nature made name → KeepsFile name s0 s3
    others_stay made stay' name none other = grind arith

    restorable_kept : {request : Request} {image : List ℕ} {outcome : Result Answer Refusal} (file : Bor Text)
        → (made : HasMadeChange request image (uses.Journal file) bus bus' amid s2 outcome)
        → IsKeptFile file.now made.vault' s3 → made.vault'.sealed ≡ true
        → (restorable : IsRestorableFrom file.now first s3) × IsDurable file.now (Some (text restorable.journal)) s3
    restorable_kept file made in_file is =
        let saves = (made.done.undo is).journal in_file.telling in (
          record {
            journal = saves.content;
            sound = saves.saves.is;
            left = λ any can. (in_file.durable is).leaves any can ∙ ap Some saves.is;
            back = λ i s later can can_s from.
                (made.done.over later (over i s later can can_s from) (from.further ∙ sym opens.ready.further)).back is in_file.telling saves.content
                saves.saves.is saves.is;
          },
          rw saves.is at (in_file.durable is),
        )

    keeps_change : {request : Request} {image : List ℕ} {outcome : Result Answer Refusal} (kept : JournalUse)
        → keeps_journal kept ≡ true → StayApart job.programmer.trace (journal_of kept) s1 s2
        → AreTwo s0.view.nature job.programmer.image (journal_of kept)
        → AreTwo s0.view.nature job.programmer.status (journal_of kept)
        → AreTwo s0.view.nature job.programmer.trace (journal_of kept)
        → HasMadeChange request image kept bus bus' amid s2 outcome
        → KeepsChange job.programmer kept s0 s3
    keeps_change (uses.Journal file) keeps stay' one other traced made =
        let in_file = kept_after (file_stays file one other) (made.kept_in (lawful_after nature2 at_rest.lawful)) in
        let not = not_that s0.view.nature job.programmer.trace file traced in
        inr (record {
          missing = missing_before job.programmer.trace file s0.view amid not but made.missing (known_at_rest rest file.now);
          others = others_stay (Some file) stay';
          image = image_whole;
          status = status_whole;
          first = first;
          sealed = made.vault'.sealed;
          same = λ is i s later can can_s from.
              (made.done.over later (over i s later can can_s from) (from.further ∙ sym opens.ready.further)).same is;
          back = λ is. (restorable_kept file made in_file is).0;
        })
    keeps_change (uses.Rehearse stops) keeps stay' one other traced made = absurd cc

    pub keeps_files : (done : Task) (named : Option ChipName) (outcome : Result Answer Refusal) → writes_back done ≡ true
        → StayApart job.programmer.trace (made_by done) s1 s2
        → AreTwo s0.view.nature job.programmer.image (named_by done).journal
        → AreTwo s0.view.nature job.programmer.status (named_by done).journal
        → AreTwo s0.view.nature job.programmer.trace (named_by done).journal
        → DoesJob amid s2 job.programmer named done bus bus' outcome → KeepsFiles job.programmer done s0 s3
    keeps_files (task.Change change) named outcome puts stay' one other traced does =
        keeps_change change.journal_use puts stay' one other traced does.changed
    keeps_files (task.Restore journal) named outcome puts stay' one other traced does =
        let not = not_that s0.view.nature job.programmer.trace journal traced in
        inr (record {
          others = λ name none. others_stay None stay' name none tt;
          image = image_whole;
          status = status_whole;
          found = first;
          journal = does.journal;
          sound = does.sound;
          read = reads_before job.programmer.trace journal.now 16793662 _ s0.view amid not but does.read;
          stays = stays_on (are_held.stay journal.now)
              (stays_on (call_stays None stay' journal.now not tt) (file_stays journal one other));
          back = λ chip can i s later left left_status from.
              does.restored.over chip later can (over i s later left left_status from)
              (from.further ∙ sym opens.ready.further);
        })
    keeps_files _ named outcome puts stay' one other traced does = absurd cc

    module _ (unwritten : Unwritten) (all : unwritten ≡ all_written)
        (put : AreWrittenBack job.programmer bus'.chip unwritten.image unwritten.status s3) where
      put_all : AreWrittenBack job.programmer bus'.chip None None s3
      put_all = rw all at put

      holds_change : (change : Change) (named : Option ChipName) (found : Answer) (kept : JournalUse)
          → keeps_journal kept ≡ true → AreTwo s0.view.nature job.programmer.trace (layout_of change.regions)
          → AreTwo s0.view.nature job.programmer.trace (image_of change.wanted)
          → AreTwo s0.view.nature job.programmer.image (journal_of kept)
          → AreTwo s0.view.nature job.programmer.status (journal_of kept) → (ranges : Option (List Span))
          → AreRangesOf amid None change.regions ranges → (image : List ℕ)
          → IsAskedOf amid change.wanted (emulated_part job.programmer.chip).size image
          → HasMadeChange (request_for change named ranges) image kept bus bus' amid s2 (Ok found)
          → HoldsChange job.programmer named change kept found s0 s3
      holds_change change named found (uses.Journal file) keeps two_layout two_image one other ranges are image is made =
          let in_file = kept_after (file_stays file one other) (made.kept_in (lawful_after nature2 at_rest.lawful)) in
          let sealed = made.done.sealed refl in
          let restorable = restorable_kept file made in_file sealed in
          record {
            first = first;
            last = bus';
            ranges = ranges;
            included = ranges_before job.programmer.trace s0.view amid change.regions ranges two_layout but are;
            image = image;
            buffer = buffer_before job.programmer.trace s0.view amid change.wanted _ image two_image but is;
            target = made.done.returned;
            held = put_all;
            restorable = restorable.0;
            durable = restorable.1;
          }
      holds_change change named found (uses.Rehearse stops) keeps two_layout two_image one other ranges are image is made =
          absurd cc

      pub holds_task : (done : Task) (named : Option ChipName) (found : Answer) → writes_back done ≡ true
          → StayApart job.programmer.trace (made_by done) s1 s2
          → AreTwo s0.view.nature job.programmer.trace (named_by done).layout
          → AreTwo s0.view.nature job.programmer.trace (named_by done).wanted
          → AreTwo s0.view.nature job.programmer.image (named_by done).journal
          → AreTwo s0.view.nature job.programmer.status (named_by done).journal
          → AreTwo s0.view.nature job.programmer.trace (named_by done).journal
          → DoesJob amid s2 job.programmer named done bus bus' (Ok found)
          → HoldsTask job.programmer named done found s0 s3
      holds_task (task.Change change) named found puts stay' two_layout two_image one other traced does =
          holds_change change named found change.journal_use puts two_layout two_image one other does.ranges
          does.included does.image does.buffer does.changed
      holds_task (task.Restore journal) named found puts stay' two_layout two_image one other traced does =
          let not = not_that s0.view.nature job.programmer.trace journal traced in
          record {
            opened = first;
            last = bus';
            journal = does.journal;
            sound = does.sound;
            read = reads_before job.programmer.trace journal.now 16793662 _ s0.view amid not but does.read;
            probed = does.restored.found;
            same = does.restored.same;
            target = does.restored.returned;
            back = does.restored.back;
            held = put_all;
            stays = stays_on (are_held.stay journal.now)
                (stays_on (call_stays None stay' journal.now not tt) (file_stays journal one other));
          }
      holds_task _ named found puts stay' two_layout two_image one other traced does = absurd cc
