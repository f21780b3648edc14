use Rattle.std.proofs.Common.{◌∙◌, ℕ, List, true, refl, ap, subst, arith}
use Rattle.nor_serprog.specs.Device.{with_settings}
use Rattle.nor_serprog.specs.Firmware.{ProgrammerSettings, is_in_map}
use Rattle.nor_serprog.specs.Identify.{part_limit_of}
use Rattle.nor_serprog.specs.Replies.{OnlyAsks}
use Rattle.nor_serprog.proofs.Handshaken.{Starts, HasReached, unchanged, after_bus_type, after_pins, begins, goes, fails_at, is_prepared, returns_error}
use Rattle.nor_serprog.proofs.identification.identify_for.Goals.{After-require_version, After-query_commands, After-require_spi, After-set, After-query_write_limit, After-query_read_limit, After-query_buffer, After-query_name, After-set_frequency, After-set-2}
use Rattle.nor_serprog.proofs.identification.identify_for.Goals as goal

at_version : (g : _) (c : After-require_version g) → Starts g.P.Port.state c.args.link.now
    → HasReached g.P.Port.state c.args.link.now c.args.hertz c.args.least 28 0 unchanged (g.P.Port.state c.args.link.now.port).device.firmware.commands
    c.synchronize.new.link
at_version g c start =
    begins c.args.hertz c.args.least c.synchronize.new.link (c.in_ok-synchronize.ensures.concludes start.0 start.1)
    c.in_ok-synchronize.ensures.in_step

at_map : (g : _) (c : After-query_commands g) → Starts g.P.Port.state c.args.link.now
    → HasReached g.P.Port.state c.args.link.now c.args.hertz c.args.least 31 1 unchanged (g.P.Port.state c.args.link.now.port).device.firmware.commands
    c.require_version.new.link
at_map g c start =
    let s = at_version g c.before.before.before.before start in
    goes unchanged 1 c.require_version.new.link s (c.in_ok-require_version.ensures.concludes _ s.ready)
    (c.in_ok-require_version.ensures.in_step s.ready.in_step) refl refl

at_spi : (g : _) (c : After-require_spi g) → Starts g.P.Port.state c.args.link.now
    → HasReached g.P.Port.state c.args.link.now c.args.hertz c.args.least 34 2 unchanged c.in_ok-commands.commands c.query_commands.new.link
at_spi g c start =
    let s = at_map g c.before.before.before.before.before start in
    let d = c.in_ok-commands.ensures.concludes _ s.ready in
    goes unchanged 2 c.query_commands.new.link s d (c.in_ok-commands.ensures.in_step s.ready.in_step) d.value refl

at_bus : (g : _) (c : After-set g) → Starts g.P.Port.state c.args.link.now
    → HasReached g.P.Port.state c.args.link.now c.args.hertz c.args.least 37 3 unchanged c.in_ok-commands.commands c.require_spi.new.link
at_bus g c start =
    let s = at_spi g c.before.before.before.before.before start in
    goes unchanged 3 c.require_spi.new.link s (c.in_ok-require_spi.ensures.concludes _ s.ready s.map)
    (c.in_ok-require_spi.ensures.in_step s.ready.in_step) s.map refl

at_write : (g : _) (c : After-query_write_limit g) → Starts g.P.Port.state c.args.link.now
    → HasReached g.P.Port.state c.args.link.now c.args.hertz c.args.least 40 4 after_bus_type c.in_ok-commands.commands c.set.new.link
at_write g c start =
    let s = at_bus g c.before.before.before.before.before start in
    let takes = (g.P.Port.state c.args.link.now.port).device.firmware.takes_buses 8 in
    goes after_bus_type 4 c.set.new.link s (c.in_ok-set.ensures.concludes _ takes s.ready s.map (λ h. h) refl refl)
    (c.in_ok-set.ensures.in_step s.ready.in_step) s.map refl

at_read : (g : _) (c : After-query_read_limit g) → Starts g.P.Port.state c.args.link.now
    → HasReached g.P.Port.state c.args.link.now c.args.hertz c.args.least 43 5 after_bus_type c.in_ok-commands.commands c.query_write_limit.new.link
at_read g c start =
    let s = at_write g c.before.before.before.before.before start in
    goes unchanged 5 c.query_write_limit.new.link s (c.in_ok-longest_write.ensures.concludes _ s.ready s.map)
    (c.in_ok-longest_write.ensures.in_step s.ready.in_step) s.map refl

at_buffer : (g : _) (c : After-query_buffer g) → Starts g.P.Port.state c.args.link.now
    → HasReached g.P.Port.state c.args.link.now c.args.hertz c.args.least 46 6 after_bus_type c.in_ok-commands.commands c.query_read_limit.new.link
at_buffer g c start =
    let s = at_read g c.before.before.before.before.before start in
    goes unchanged 6 c.query_read_limit.new.link s (c.in_ok-longest_read.ensures.concludes _ s.ready s.map)
    (c.in_ok-longest_read.ensures.in_step s.ready.in_step) s.map refl

at_name : (g : _) (c : After-query_name g) → Starts g.P.Port.state c.args.link.now
    → HasReached g.P.Port.state c.args.link.now c.args.hertz c.args.least 49 7 after_bus_type c.in_ok-commands.commands c.query_buffer.new.link
at_name g c start =
    let s = at_buffer g c.before.before.before.before.before start in
    goes unchanged 7 c.query_buffer.new.link s (c.in_ok-serial_buffer.ensures.concludes _ s.ready s.map)
    (c.in_ok-serial_buffer.ensures.in_step s.ready.in_step) s.map refl

at_clock : (g : _) (c : After-set_frequency g) → Starts g.P.Port.state c.args.link.now
    → HasReached g.P.Port.state c.args.link.now c.args.hertz c.args.least 52 7 after_bus_type c.in_ok-commands.commands c.query_name.new.link
at_clock g c start =
    let s = at_name g c.before.before.before.before.before start in
    goes unchanged 7 c.query_name.new.link s (c.in_ok-name.ensures.concludes _ s.ready s.map)
    (c.in_ok-name.ensures.in_step s.ready.in_step) s.map refl

at_pins : (g : _) (c : After-set-2 g) → Starts g.P.Port.state c.args.link.now
    → HasReached g.P.Port.state c.args.link.now c.args.hertz c.args.least 55 8 after_bus_type c.in_ok-commands.commands c.set_frequency.new.link
at_pins g c start =
    let s = at_clock g c.before.before.before.before.before start in
    goes unchanged 8 c.set_frequency.new.link s (c.in_ok-frequency.ensures.concludes _ s.ready s.map)
    (c.in_ok-frequency.ensures.in_step s.ready.in_step) s.map refl

pub returns-in_err-require_version-clause-identifies : goal.returns-in_err-require_version-clause-identifies
returns-in_err-require_version-clause-identifies g c awaits whole =
    let s = at_version g (goal.at.returns-in_err-require_version-clause-identifies g c).After-require_version (awaits, whole) in
    returns_error c.from_residual-in_err-require_version.result c.from_residual-in_err-require_version.ensures.1
    (fails_at unchanged 1 s (c.in_err-require_version.ensures.concludes _ s.ready) (omega arith) refl)

pub returns-in_err-commands-clause-identifies : goal.returns-in_err-commands-clause-identifies
returns-in_err-commands-clause-identifies g c awaits whole =
    let s = at_map g (goal.at.returns-in_err-commands-clause-identifies g c).After-query_commands (awaits, whole) in
    returns_error c.from_residual-in_err-commands.result c.from_residual-in_err-commands.ensures.1
    (fails_at unchanged 2 s (c.in_err-commands.ensures.concludes _ s.ready) (omega arith) refl)

pub returns-in_err-require_spi-clause-identifies : goal.returns-in_err-require_spi-clause-identifies
returns-in_err-require_spi-clause-identifies g c awaits whole =
    let s = at_spi g (goal.at.returns-in_err-require_spi-clause-identifies g c).After-require_spi (awaits, whole) in
    returns_error c.from_residual-in_err-require_spi.result c.from_residual-in_err-require_spi.ensures.1
    (fails_at unchanged 3 s (c.in_err-require_spi.ensures.concludes _ s.ready s.map) (omega arith) refl)

pub returns-in_err-set-clause-identifies : goal.returns-in_err-set-clause-identifies
returns-in_err-set-clause-identifies g c awaits whole =
    let s = at_bus g (goal.at.returns-in_err-set-clause-identifies g c).After-set (awaits, whole) in
    let takes = (g.P.Port.state c.args.link.now.port).device.firmware.takes_buses 8 in
    returns_error c.from_residual-in_err-set.result c.from_residual-in_err-set.ensures.1
    (fails_at after_bus_type 4 s (c.in_err-set.ensures.concludes _ takes s.ready s.map (λ h. h) refl refl) (omega arith) refl)

pub returns-in_err-longest_write-clause-identifies : goal.returns-in_err-longest_write-clause-identifies
returns-in_err-longest_write-clause-identifies g c awaits whole =
    let s = at_write g (goal.at.returns-in_err-longest_write-clause-identifies g c).After-query_write_limit (awaits, whole) in
    returns_error c.from_residual-in_err-longest_write.result c.from_residual-in_err-longest_write.ensures.1
    (fails_at unchanged 5 s (c.in_err-longest_write.ensures.concludes _ s.ready s.map) (omega arith) refl)

pub returns-in_err-longest_read-clause-identifies : goal.returns-in_err-longest_read-clause-identifies
returns-in_err-longest_read-clause-identifies g c awaits whole =
    let s = at_read g (goal.at.returns-in_err-longest_read-clause-identifies g c).After-query_read_limit (awaits, whole) in
    returns_error c.from_residual-in_err-longest_read.result c.from_residual-in_err-longest_read.ensures.1
    (fails_at unchanged 6 s (c.in_err-longest_read.ensures.concludes _ s.ready s.map) (omega arith) refl)

pub returns-in_err-serial_buffer-clause-identifies : goal.returns-in_err-serial_buffer-clause-identifies
returns-in_err-serial_buffer-clause-identifies g c awaits whole =
    let s = at_buffer g (goal.at.returns-in_err-serial_buffer-clause-identifies g c).After-query_buffer (awaits, whole) in
    returns_error c.from_residual-in_err-serial_buffer.result c.from_residual-in_err-serial_buffer.ensures.1
    (fails_at unchanged 7 s (c.in_err-serial_buffer.ensures.concludes _ s.ready s.map) (omega arith) refl)

pub returns-in_err-name-clause-identifies : goal.returns-in_err-name-clause-identifies
returns-in_err-name-clause-identifies g c awaits whole =
    let s = at_name g (goal.at.returns-in_err-name-clause-identifies g c).After-query_name (awaits, whole) in
    returns_error c.from_residual-in_err-name.result c.from_residual-in_err-name.ensures.1
    (fails_at unchanged 7 s (c.in_err-name.ensures.concludes _ s.ready s.map) (omega arith) refl)

pub returns-in_err-frequency-clause-identifies : goal.returns-in_err-frequency-clause-identifies
returns-in_err-frequency-clause-identifies g c awaits whole =
    let s = at_clock g (goal.at.returns-in_err-frequency-clause-identifies g c).After-set_frequency (awaits, whole) in
    returns_error c.from_residual-in_err-frequency.result c.from_residual-in_err-frequency.ensures.1
    (fails_at unchanged 8 s (c.in_err-frequency.ensures.concludes _ s.ready s.map) (omega arith) refl)

pub returns-in_err-set-2-clause-identifies : goal.returns-in_err-set-2-clause-identifies
returns-in_err-set-2-clause-identifies g c awaits whole =
    let s = at_pins g (goal.at.returns-in_err-set-2-clause-identifies g c).After-set-2 (awaits, whole) in
    let takes = (g.P.Port.state c.args.link.now.port).device.firmware.takes_pins true in
    returns_error c.from_residual-in_err-set-2.result c.from_residual-in_err-set-2.ensures.1
    (fails_at after_pins 9 s (c.in_err-set-2.ensures.concludes _ takes s.ready s.map (λ h. h) refl refl) (omega arith) refl)

pub returns-clause-identifies : goal.returns-clause-identifies
returns-clause-identifies g c awaits whole =
    let a = goal.at.returns-clause-identifies g c in
    let old = g.P.Port.state c.args.link.now.port in
    let bus = at_bus g a.After-set (awaits, whole) in
    let write = at_write g a.After-query_write_limit (awaits, whole) in
    let read = at_read g a.After-query_read_limit (awaits, whole) in
    let buffer = at_buffer g a.After-query_buffer (awaits, whole) in
    let name = at_name g a.After-query_name (awaits, whole) in
    let clock = at_clock g a.After-set_frequency (awaits, whole) in
    let pin = at_pins g a.After-set-2 (awaits, whole) in
    let selects = c.in_ok-set.ensures.concludes _ (old.device.firmware.takes_buses 8) bus.ready bus.map (λ h. h) refl refl in
    let switches = c.in_ok-set-2.ensures.concludes _ (old.device.firmware.takes_pins true) pin.ready pin.map (λ h. h) refl refl in
    let all =
    goes after_pins 9 c.set-2.new.link pin switches (c.in_ok-set-2.ensures.in_step pin.ready.in_step) pin.map refl in
    record {
      usable = all.is;
      value = record {
        name = (c.in_ok-name.ensures.concludes _ name.ready name.map).value;
        writes = (c.in_ok-longest_write.ensures.concludes _ write.ready write.map).value;
        reads = (c.in_ok-longest_read.ensures.concludes _ read.ready read.map).value;
        parts = c.part_limit.ensures.value
            ∙ ap (λ (m : List ℕ). part_limit_of m c.in_ok-longest_write.longest_write c.in_ok-serial_buffer.serial_buffer) bus.map;
        buffer = (c.in_ok-serial_buffer.ensures.concludes _ buffer.ready buffer.map).value;
        frequency = (c.in_ok-frequency.ensures.concludes _ clock.ready clock.map).value;
        selects = c.offers.ensures ∙ ap (λ (m : List ℕ). is_in_map m 0x16) bus.map;
      };
      asks =
          subst (λ (s : ProgrammerSettings). OnlyAsks 58 (with_settings s old) (g.P.Port.state c.set-2.new.link.port))
          (is_prepared old.device.firmware old.device.settings selects.usable switches.usable) all.asks;
      fails = tt;
      power = tt;
    }
