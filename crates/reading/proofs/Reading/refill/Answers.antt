use Rattle.std.proofs.Common.{◌+◌, ◌-◌, arith, ap, ◌∙◌, refl, not, length, take}
use Rattle.reading.specs.Turn.{turned_as}
use Rattle.reading.proofs.Refills.{used_few, moved_is, refilled}
use Rattle.reading.proofs.Reading.refill.Goals as goal

pub copy_within-requires-clause-start_le_end : goal.copy_within-requires-clause-start_le_end
copy_within-requires-clause-start_le_end g c =
    used_few c.args.self.now c.args.held c.fill-got.result c.requires.sound c.args.buf.now c.fill-got.new.buf c.args.buf.now (take (c.args.held + c.fill-got.result) c.fill-got.new.buf) (turned_as c.turn-turn.result c.turn-turn.new.self (length c.turn-turn.new.out.items)) (not c.is_ok-sent.result) (omega (arith, c.fill-got.ensures.0)) c.fill-got.ensures.1 refl c.turn-turn.ensures.turned

pub overflow_sub-result : goal.overflow_sub-result
overflow_sub-result g c =
    used_few c.args.self.now c.args.held c.fill-got.result c.requires.sound c.args.buf.now c.fill-got.new.buf c.args.buf.now (take (c.args.held + c.fill-got.result) c.fill-got.new.buf) (turned_as c.turn-turn.result c.turn-turn.new.self (length c.turn-turn.new.out.items)) (not c.is_ok-sent.result) (omega (arith, c.fill-got.ensures.0)) c.fill-got.ensures.1 refl c.turn-turn.ensures.turned

pub returns : goal.returns
returns g c =
    let u = used_few c.args.self.now c.args.held c.fill-got.result c.requires.sound c.args.buf.now c.fill-got.new.buf c.args.buf.now (take (c.args.held + c.fill-got.result) c.fill-got.new.buf) (turned_as c.turn-turn.result c.turn-turn.new.self (length c.turn-turn.new.out.items)) (not c.is_ok-sent.result) (omega (arith, c.fill-got.ensures.0)) c.fill-got.ensures.1 refl c.turn-turn.ensures.turned in
    refilled c.args.self.now c.args.held c.fill-got.result c.requires.sound c.args.buf.now c.fill-got.new.buf c.copy_within.new.self (take (c.args.held + c.fill-got.result) c.fill-got.new.buf) (turned_as c.turn-turn.result c.turn-turn.new.self (length c.turn-turn.new.out.items)) (not c.is_ok-sent.result) (omega (arith, c.fill-got.ensures.0)) c.fill-got.ensures.1 refl c.turn-turn.ensures.turned
    c.turn-turn.new.out.items c.turn-turn.ensures.written
    (ap (take (c.args.held + c.fill-got.result - c.turn-turn.result.used)) c.copy_within.ensures.after ∙ moved_is c.fill-got.new.buf c.turn-turn.result.used (c.args.held + c.fill-got.result) (omega (arith, c.fill-got.ensures.0)) u)
