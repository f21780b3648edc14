-- What a bus over a link that reached the chip of a well-behaved port is.
use Rattle.std.proofs.Common.{◌≡◌, ◌∙◌, ℕ, true, false, Option, ap, arith, subst, sym}
use Rattle.std.proofs.lemmas.Bool.{false≢true}
use Rattle.nor_model.specs.Bus.{BusState}
use Rattle.nor_model.specs.Chip.{Chip, IsSame}
use Rattle.nor_model.specs.declared.config.Config.{Config}
use Rattle.nor_buses.specs.Adapted.{keeps_replies}
use Rattle.nor_serprog.specs.Batch.{IsSettledFor}
use Rattle.nor_serprog.specs.Device.{PortState, IsIdle}
use Rattle.nor_serprog.specs.Firmware.{Firmware, buffer_at}
use Rattle.nor_serprog.specs.Identify.{IsAnyProgrammerOf}
use Rattle.nor_serprog.specs.Replies.{AwaitsCommand}
use Rattle.nor_serprog.specs.declared.link.Link.{Link}
use Rattle.nor_serprog.specs.declared.programmer.AnyProgrammer.{AnyProgrammer}
use Rattle.serprog_board.specs.BoardBus.{FitsBoard, ids_with_row}
use Rattle.serprog_board.specs.Looking.{IsRestorableChip, LooksAndAwaits, OnlyLooks}
use Rattle.serprog_board.specs.Reached.{ReachesChip}

-- The link over the port `opened` was `first` and is now `link`.
module _ {P C : Type 0} (state : P → PortState) (opened : P) (first link : Link P C) (programmer : AnyProgrammer)
    (hertz : Option ℕ) where
  pub settled_for : first.port ≡ opened → ((state opened).honest ≡ true → IsIdle (state opened).device)
      → (state link.port).honest ≡ (state first.port).honest
      → (AwaitsCommand (state first.port) → LooksAndAwaits state first link)
      → (AwaitsCommand (state first.port) → IsAnyProgrammerOf (state first.port).device.firmware hertz programmer)
      → IsSettledFor programmer.serial_buffer state link
  settled_for over idle nature done reported =
      let begins : (state link.port).honest ≡ true → AwaitsCommand (state first.port) = λ honest.
      let same : (state first.port).honest ≡ true = sym nature ∙ honest in
      record {
        honest = same;
        idle = subst (λ (port : P). IsIdle (state port).device) (sym over)
            (idle (ap (λ (port : P). (state port).honest) (sym over) ∙ same));
      } in
      record {
        settled = record {
          idle = λ honest in_step. (done (begins honest)).awaits.idle;
          spent = λ honest out_of_step.
              absurd (false≢true (sym out_of_step ∙ (done (begins honest)).in_step));
        };
        buffer = λ honest in_step.
            let awaits = begins honest in
            let same : programmer.serial_buffer ≡ buffer_at (state link.port).device.firmware =
            (reported awaits).buffer ∙ ap (λ (f : Firmware). buffer_at f) (sym (done awaits).firmware) in
            omega (arith, same);
      }

  pub chip_reached : (start : BusState) → first.port ≡ opened → AwaitsCommand (state opened)
      → (AwaitsCommand (state first.port) → OnlyLooks (state first.port).device (state link.port).device)
      → (AwaitsCommand (state first.port) → LooksAndAwaits state first link)
      → (AwaitsCommand (state first.port) → IsAnyProgrammerOf (state first.port).device.firmware hertz programmer)
      → (FitsBoard programmer (state link.port) → start.honest ≡ true)
      → start.chip ≡ (state link.port).device.chip → start.further ≡ true → start.steady ≡ false
      → ReachesChip (state opened) start
  chip_reached start over awaits looks done reported honest chip further unsteady =
      subst (λ (port : P). ReachesChip (state port) start) over
      (let begins : AwaitsCommand (state first.port) =
      subst (λ (port : P). AwaitsCommand (state port)) (sym over) awaits in
      let looked = looks begins in
      let ended = done begins in
      let is = reported begins in
      record {
        honest = λ fits. honest (record {
          honest = ended.awaits.honest;
          whole = rw (is.parts, is.reads, is.writes, is.buffer) fits.whole;
          replies = subst (λ (c : Config). keeps_replies ids_with_row c ≡ true) (sym looked.config) fits.replies;
        });
        further = further;
        unsteady = unsteady;
        config = ap (λ (c : Chip). c.config) chip ∙ looked.config;
        same = λ idle. subst (λ (c : Chip). IsSame (state first.port).device.chip c) (sym chip) (looked.same idle);
        idle = λ idle. ap (λ (c : Chip). c.busy) chip ∙ ended.idle idle;
        restorable = λ journal original can.
            subst (λ (c : Chip). IsRestorableChip true journal original c) (sym chip)
            (looked.restorable true journal original can);
      })
