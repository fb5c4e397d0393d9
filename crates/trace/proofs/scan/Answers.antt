use Rattle.std.proofs.Common.{arith, ◌∙◌, sym, refl}
use Rattle.answer.proofs.Numbers.{number_above}
use Rattle.trace.proofs.Scans.{run_end, has_length, within, refused, room, reported, told, on, refused_itself}
use Rattle.trace.proofs.scan.Goals as goal

pub take-requires : goal.take-requires
take-requires c =
    let l = c.loop-at in
    record {
      within = within c.args.tell c.args.s.now l.at l.frames l.st c.record_at-rec.result c.record_at-rec.ensures c.if-s-at.false;
      some = has_length c.record_at-rec.result c.in-Frame.is;
    }

pub loop-at-preserved : goal.loop-at-preserved
loop-at-preserved c =
    let l = c.loop-at in
    record {
      same = rw (c.length_of.ensures, c.frames_in-frames.ensures) (l.invariant.same ∙ on c.args.tell c.args.s.now l.at l.frames l.st c.record_at-rec.result c.record_at-rec.ensures c.if-s-at.false _ c.in-Ok.ensures.taken refl c.if-told.false c.if-tell.false);
      few = omega (arith, c.length_of.ensures, c.frames_in-frames.ensures, l.invariant.few, room c.args.tell c.args.s.now l.at l.frames l.st c.record_at-rec.result c.record_at-rec.ensures c.if-s-at.false _ c.in-Ok.ensures.taken refl);
    }

pub returns-then-s-at : goal.returns-then-s-at
returns-then-s-at c =
    let l = c.loop-at in
    sym (l.invariant.same ∙ run_end c.args.tell c.args.s.now l.at l.frames l.st c.if-s-at.true)

pub returns-in_default : goal.returns-in_default
returns-in_default c =
    let l = c.loop-at in
    sym (l.invariant.same ∙ refused_itself c.args.tell c.args.s.now l.at l.frames l.st c.record_at-rec.result c.record_at-rec.ensures c.if-s-at.false _ c.in_default.is c.refusal_in-number.result c.refusal_in-number.ensures)

pub returns-then-told : goal.returns-then-told
returns-then-told c =
    let l = c.loop-at in
    rw (c.length_of.ensures, c.frames_in-frames.ensures) (sym (l.invariant.same ∙ reported c.args.tell c.args.s.now l.at l.frames l.st c.record_at-rec.result c.record_at-rec.ensures c.if-s-at.false _ c.in-Ok.ensures.taken refl c.if-told.true))

pub returns-then-tell : goal.returns-then-tell
returns-then-tell c =
    let l = c.loop-at in
    rw (c.length_of.ensures, c.frames_in-frames.ensures) (sym (l.invariant.same ∙ told c.args.tell c.args.s.now l.at l.frames l.st c.record_at-rec.result c.record_at-rec.ensures c.if-s-at.false _ c.in-Ok.ensures.taken refl c.if-told.false c.if-tell.true))

pub returns-in-Err : goal.returns-in-Err
returns-in-Err c =
    let l = c.loop-at in
    rw (c.number.ensures, c.in-Err.ensures.err)
    (sym (l.invariant.same ∙ refused c.args.tell c.args.s.now l.at l.frames l.st c.record_at-rec.result c.record_at-rec.ensures c.if-s-at.false _ c.in-Err.ensures.taken (λ z. omega (arith, number_above c.in-Err.refusal, z))))
