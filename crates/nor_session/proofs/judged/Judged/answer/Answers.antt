use Rattle.std.proofs.Common.{refl, rules, arith, ◌≡◌, ◌∙◌, true, false, inr, ◌+◌, ◌*◌, length}
use Rattle.std.proofs.lemmas.Bool.{both_ways, lt-ltb}
use Rattle.std.proofs.lemmas.Result.{err_from_is_err_and}
use Rattle.nor_driver.specs.OnlyReads.{OnlyReads}
use Rattle.nor_driver.proofs.RestsInTurn.{only_reads_after}
use Rattle.nor_request.specs.Request.{scanned_sectors}
use Rattle.nor_driver.specs.Limits.{Spends}
use Rattle.nor_session.specs.Bounds.{most_reads, most_of}
use Rattle.nor_session.specs.Session.{CanBeUndone, most_status_writes}
use Rattle.nor_scan.specs.Verdict.{NeedsStatusWrite}
use Rattle.nor_session.proofs.Ready.{changes_of, has_opened, ready, scanned_few, spends_only_reads, spends_more, spends_ready, writes_few, bounded_by, counts_changes, touched_data}
use Rattle.nor_session.proofs.ReadyChip.{small_first, opening_of, shows, named, most_sized, refused_puts, save_fails, save_errors, save_early, save_last}
use Rattle.nor_session.proofs.SessionChanges.{never_written, change_fails, change_errors}
use Rattle.nor_session.proofs.SessionEnds.{ready_chip, can_be_undone, done, session_checked, spared}
use Rattle.nor_session.proofs.Restoring.{change_last}
use Rattle.nor_scan.specs.Judging.{IsFoundCode}
use Rattle.nor_session.proofs.Protected.{session_protects}
use Rattle.nor_session.proofs.RepliedJournal.{replied_saved, programs_targets}
use Rattle.nor_session.proofs.ReadBack.{session_read_back, session_read_other, save_read_back}
use Rattle.nor_session.proofs.Naming.{save_names, save_number, work_names}
use Rattle.nor_request.specs.declared.refusal.Refusal.TheVariants.{Stopped}
use Rattle.nor_scan.specs.Saving.{header_found}
use Rattle.nor_session.proofs.Targeting.{none_written, few_none, change_writes, change_few}
use Rattle.nor_session.proofs.OfJournal.{session_sends, counted}
use Rattle.nor_session.proofs.judged.Judged.answer.Goals as goal

pub finish-requires-clause-sourced : goal.finish-requires-clause-sourced
finish-requires-clause-sourced g c = λ s touched.
    let scans = c.in_ok-saved.ensures.keeps.scans in
    let judged = c.requires.judged in
    let long = judged.sized
    (touched_data c.args.self.request.now _ s judged.at_most scans.marks scans.few scans.reads touched) in
    let same = c.save.auto.image in
    let below = scans.marks.below s touched in
    lt-ltb (4096 * s + 4095) (length c.save.new.image) (omega arith)

pub returns-in_err-saved-clause-keeps : goal.returns-in_err-saved-clause-keeps
returns-in_err-saved-clause-keeps g c = λ first only_reads opens.
    let request = c.args.self.request.now in let size = c.args.self.identity.found.size in
    let new = g.B.Bus.state c.save.new.bus in let leaves = c.save.ensures.leaves in
    let vault = g.V.Vault.state c.args.self.vault.now in let vault' = g.V.Vault.state c.save.new.vault in
    let refusal = c.in_err-saved.field-0.0 in let returned = c.in_err-saved.ensures in
    let few = scanned_few request size opens.part.at_most in let most = opens.most in
    let reads_all : OnlyReads (most_reads 4096) first new
    = only_reads_after _ _ _ _ _ _ (omega arith) (has_opened only_reads opens) leaves in
    let spent : Spends (most_of (scanned_sectors request size)) first new = spends_only_reads (omega arith) reads_all in
    let puts = refused_puts refusal vault vault' returned.puts in
    let unsealed : vault'.sealed ≡ false = puts.1 ∙ c.requires.fresh.unsealed in
    let p = err_from_is_err_and c.from_residual.result c.from_residual.ensures.1 in
    rw (p.1, p.2) (record {
      always =
          let spends : Spends (most_of 4096) first new = spends_more (omega arith) spent in
          let writes = none_written (most_status_writes request.what request.unlock) first new reads_all.sent in
          let names = save_names _ _ _ _ _ _ refusal returned.errors in
          let number = save_number _ _ _ _ _ _ refusal returned.errors in
          let never = λ (on : vault'.sealed ≡ true). both_ways vault'.sealed unsealed on in
          record {
            only_reads = λ off. reads_all;
            spends = spends;
            few = few_none first new reads_all.sent;
            writes = writes;
            telling = puts.0;
            sends = λ on telling. absurd (never on);
            holds = λ on telling. absurd (never on);
            replied = λ on telling. absurd (never on);
            programs = λ on. absurd (never on);
            answers = record {
              own = omega (arith, number.1);
              vault = search rules;
              unsealed = λ few. unsealed;
              unused = λ few. absurd (omega (arith, number.0));
            };
            names = record { early = λ off. names; late = λ on telling. absurd (never on) };
            ends = tt;
            read_back = save_read_back request c.args.self.image.now _ _ _ _ _ first new refusal returned.errors;
            protects = tt;
            polled_ready = tt;
            last_transaction = save_last _ _ _ _ _ _ refusal returned.errors;
          };
      honest = λ honest.
          let errors = save_fails _ _ _ _ _ _ _ _ refusal honest only_reads opens leaves returned.errors in search rules;
      modelled = λ modelled.
          let opened = opening_of modelled opens in
          let shown = shows request _ _ _ modelled only_reads opens in
          let is_named = named request _ _ _ modelled opens in
          let errors = save_errors _ _ _ _ _ _ _ vault vault' refusal modelled only_reads opens
          (c.requires.judged.accepts first.further first.chip _ opened is_named refl) (search rules) returned.errors in
          let falls = (spends_more (most_sized request (opens.genuine modelled)) spent).falls modelled.honest in
          let unwritten = none_written 0 first new reads_all.sent in
          let early = λ (punctual : first.punctual ≡ true) (is : refusal ≡ Stopped).
          save_early request c.args.self.image.now _ c.args.self.code _ _ _ modelled
          only_reads opens (rw is at returned.errors) punctual in
          let undo : vault'.sealed ≡ true → CanBeUndone request c.args.self.image.now first new vault'
          = λ on. absurd (both_ways vault'.sealed unsealed on) in
          search (rules, inr, returned.begins, returned.cut, early, undo);
    })

pub returns-in_err-work-clause-keeps : goal.returns-in_err-work-clause-keeps
returns-in_err-work-clause-keeps g c = λ first only_reads opens.
    let request = c.args.self.request.now in let image = c.args.self.image.now in
    let keeps = c.in_ok-saved.ensures.keeps in let leaves = c.finish.ensures.leaves in
    let vault = g.V.Vault.state c.args.self.vault.now in let vault' = g.V.Vault.state c.save.new.vault in
    let refusal = c.in_err-work.field-0.0 in let returned = c.in_err-work.ensures in
    let is = ready only_reads opens c.save.ensures.leaves keeps c.status.ensures c.requires.judged.same_code in
    let few = scanned_few request _ is.part.at_most in let spent = spends_ready is leaves.spends in
    let p = err_from_is_err_and c.from_residual-in_err-work.result c.from_residual-in_err-work.ensures.1 in
    rw (p.1, p.2) (record {
      always =
          let spends : Spends (most_of 4096) first _ = spends_more (omega arith) spent in
          let writes = change_writes first is.honest_reads.same_sent leaves (writes_few is) in
          let few_sent = change_few first is.honest_reads.same_sent leaves is.marks.inside in
          let sends = λ (telling : vault'.telling ≡ true).
          session_sends is c.requires.judged.six_bits c.requires.judged.found_code is.honest_reads.same_sent leaves
          (c.in_ok-saved.ensures.saves telling) in
          let replied = λ (telling : vault'.telling ≡ true).
          replied_saved only_reads opens c.save.ensures.leaves c.in_ok-saved.ensures.replies
          (c.in_ok-saved.ensures.replied telling) leaves.spends.nature in
          let puts = c.in_ok-saved.ensures.puts in
          let programs = λ (sealed : vault'.sealed ≡ true).
          programs_targets {request = request} {image = image} {vault = vault'} only_reads opens c.save.ensures.leaves
          c.in_ok-saved.ensures.replies keeps.scans (λ s. refl) c.in_ok-saved.ensures.replied leaves in
          let last = change_last _ _ _ _ refusal returned.errors in
          let most = opens.most in
          let reads_all : OnlyReads (most_reads 4096) first (g.B.Bus.state c.save.new.bus)
          = only_reads_after _ _ _ _ _ _ (omega arith) (has_opened only_reads opens) c.save.ensures.leaves in
          let read_back = session_read_other request image c.in_ok-saved.saved.scanned
          c.args.self.identity.found.size c.save.new.image
          (changes_of c.args.self.identity c.in_ok-saved.saved c.status.result c.args.self.code) first
          (g.B.Bus.state c.args.self.bus.now) (g.B.Bus.state c.save.new.bus) (g.B.Bus.state c.finish.new.self.0)
          reads_all keeps.scans (λ s. refl) refusal c.in_err-work.ensures.read_back in
          let names = work_names (changes_of c.args.self.identity c.in_ok-saved.saved c.status.result c.args.self.code)
          (header_found c.args.self.identity) vault' refusal (search rules) c.in_ok-saved.ensures.saves returned.names in
          search rules;
      honest = λ honest.
          let errors = change_fails _ _ _ _ _ _ _ _ _ refusal honest is returned.errors in search rules;
      modelled = λ modelled.
          let small = (g.met.B.Bus.reaches c.args.self.bus.now (only_reads.nature.honest ∙ modelled.honest)).kept2 in
          let of = ready_chip _ _ _ _ _ _ _ _ _ _ _ modelled only_reads opens is
          (λ is. c.requires.judged.accepts first.further first.chip _ is (named request _ _ _ modelled opens) refl) keeps (λ a. let fits = c.save.type_inv in search rules)
          (small_first modelled.honest opens small) in
          let errors = change_errors _ _ _ _ _ _ _ _ _ _ vault vault' refusal is of returned.errors in
          let falls = (spends_more (most_sized request (opens.genuine modelled)) spent).falls modelled.honest in
          let unwritten = λ (none : ¬ NeedsStatusWrite request image first.chip).
          change_writes first is.honest_reads.same_sent leaves (never_written _ _ _ _ _ _ _ _ _ is of none) in
          let undo = can_be_undone _ _ _ _ _ _ _ _ _ _ _ vault' modelled only_reads opens keeps is of leaves in
          let sealed : vault'.sealed ≡ true = c.in_ok-saved.ensures.puts.sealed in
          search rules;
    })

pub returns-clause-keeps : goal.returns-clause-keeps
returns-clause-keeps g c = λ first only_reads opens.
    let request = c.args.self.request.now in let image = c.args.self.image.now in
    let keeps = c.in_ok-saved.ensures.keeps in let leaves = c.finish.ensures.leaves in
    let vault' = g.V.Vault.state c.save.new.vault in let does = c.in_ok-work.ensures.does in
    let is = ready only_reads opens c.save.ensures.leaves keeps c.status.ensures c.requires.judged.same_code in
    let few = scanned_few request _ is.part.at_most in let spent = spends_ready is leaves.spends in
    record {
      always =
          let spends : Spends (most_of 4096) first _ = spends_more (omega arith) spent in
          let writes = change_writes first is.honest_reads.same_sent leaves (writes_few is) in
          let few_sent = change_few first is.honest_reads.same_sent leaves is.marks.inside in
          let sends = λ (telling : vault'.telling ≡ true).
          session_sends is c.requires.judged.six_bits c.requires.judged.found_code is.honest_reads.same_sent leaves
          (c.in_ok-saved.ensures.saves telling) in
          let replied = λ (telling : vault'.telling ≡ true).
          replied_saved only_reads opens c.save.ensures.leaves c.in_ok-saved.ensures.replies
          (c.in_ok-saved.ensures.replied telling) leaves.spends.nature in
          let puts = c.in_ok-saved.ensures.puts in
          let programs = λ (sealed : vault'.sealed ≡ true).
          programs_targets {request = request} {image = image} {vault = vault'} only_reads opens c.save.ensures.leaves
          c.in_ok-saved.ensures.replies keeps.scans (λ s. refl) c.in_ok-saved.ensures.replied leaves in
          let bounded = bounded_by _ _ _ _ _ _ _ _ _ _ _ c.from.result _ c.from.ensures is (writes_few is) does in
          let changing = counts_changes _ _ _ _ _ _ _ _ _ _ _ c.from.result _ c.from.ensures is (writes_few is) does in
          let polled_ready = does.polled_ready (keeps.scans.polled_ready opens.polled_ready) in
          let counts = counted first is.honest_reads.same_sent does in
          let protects = session_protects (IsFoundCode request.what) c.args.self.identity c.args.self.code only_reads
          c.save.ensures.leaves leaves.spends.nature opens.replied c.status.ensures c.requires.judged.found_code
          does.protects in
          let most = opens.most in
          let reads_all : OnlyReads (most_reads 4096) first (g.B.Bus.state c.save.new.bus)
          = only_reads_after _ _ _ _ _ _ (omega arith) (has_opened only_reads opens) c.save.ensures.leaves in
          let read_back = session_read_back request image c.in_ok-saved.saved.scanned
          c.args.self.identity.found.size c.save.new.image
          (changes_of c.args.self.identity c.in_ok-saved.saved c.status.result c.args.self.code) first
          (g.B.Bus.state c.args.self.bus.now) (g.B.Bus.state c.save.new.bus) (g.B.Bus.state c.finish.new.self.0)
          only_reads.nature.history reads_all keeps.scans (λ s. refl) c.in_ok-work.work (record {
            found = c.args.self.identity.found;
            touched = c.in_ok-saved.saved.scanned.count;
            erases = c.in_ok-work.work.erases;
            programs = c.in_ok-work.work.programs;
            transactions = c.args.self.identity.transactions + c.from.result + c.in_ok-work.work.transactions;
          }) refl c.in_ok-work.ensures.read_back in
          search rules;
      honest = λ honest.
          let checked = λ (verifies : request.verify ≡ true).
          session_checked _ _ _ _ _ _ _ _ _ _ _ _ only_reads opens keeps.scans is does verifies honest in
          search rules;
      modelled = λ modelled.
          let small = (g.met.B.Bus.reaches c.args.self.bus.now (only_reads.nature.honest ∙ modelled.honest)).kept2 in
          let of = ready_chip _ _ _ _ _ _ _ _ _ _ _ modelled only_reads opens is
          (λ is. c.requires.judged.accepts first.further first.chip _ is (named request _ _ _ modelled opens) refl) keeps (λ a. let fits = c.save.type_inv in search rules)
          (small_first modelled.honest opens small) in
          let falls = (spends_more (most_sized request (opens.genuine modelled)) spent).falls modelled.honest in
          let unwritten = λ (none : ¬ NeedsStatusWrite request image first.chip).
          change_writes first is.honest_reads.same_sent leaves (never_written _ _ _ _ _ _ _ _ _ is of none) in
          let done = done _ _ _ _ _ _ _ _ _ _ _ _ c.from.result is of does in
          let spares = λ (none : ¬ NeedsStatusWrite request image first.chip).
          spared _ _ _ _ _ _ _ _ _ _ _ _ _ c.from.result c.from.ensures is of none does in
          let undo = can_be_undone _ _ _ _ _ _ _ _ _ _ _ vault' modelled only_reads opens keeps is of leaves in
          search rules;
    }
