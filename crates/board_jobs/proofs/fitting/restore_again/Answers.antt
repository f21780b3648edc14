use Rattle.std.proofs.Common.{inr, refl}
use Rattle.std.proofs.lemmas.Result.{err_from_is_err_and}
use Rattle.nor_request.specs.declared.refusal.Refusal.TheVariants.{StatusDiffers}
use Rattle.board_jobs.proofs.Fitted.{fitted_sound, restored_again}
use Rattle.board_jobs.proofs.fitting.restore_again.Goals as goal

pub returns-in_err-bytes : goal.returns-in_err-bytes
returns-in_err-bytes g c =
    let p = err_from_is_err_and c.from_residual.result c.from_residual.ensures.1 in
    rw (p.1, p.2) (inr (_, c.in_err-bytes.ensures.err, refl))

pub returns-in_default : goal.returns-in_default
returns-in_default g c = inr (StatusDiffers, c.in_ok-bytes.ensures.ok.shows.kept, refl)

pub returns : goal.returns
returns g c =
    let encoded = c.in_ok-bytes.ensures.ok in
    let same = c.in-Ok.ensures.only _ (fitted_sound encoded.found c.args.journal.now c.status.ensures.sound)
    (rw c.deref.ensures.value encoded.encoded) in
    restored_again _ _ c.args.journal.now c.in-Ok.fitted _ _ _ _ _ encoded same c.restore_saved.ensures
