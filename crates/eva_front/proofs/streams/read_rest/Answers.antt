use Rattle.std.proofs.Common.{ℕ, length, arith, subst, ◌<◌}
use Rattle.std.proofs.lemmas.List.{length-take}
use Rattle.eva_front.specs.Outside.{Takes}
use Rattle.eva_front.proofs.Reading.{read_all, read_enough}
use Rattle.eva_front.proofs.streams.read_rest.Goals as goal

pub returns-then-count-eq0-clause-bytes : goal.returns-then-count-eq0-clause-bytes
returns-then-count-eq0-clause-bytes g c =
    let h = c.reading.invariant in
    let kept = c.read.auto.to in
    let end = subst (λ (n : ℕ). Takes (g.S.Source.left c.reading.source) (g.S.Source.left c.read.new.self) n c.read.new.to) c.if-count-eq0.true c.in-Ok.ensures.bytes in
    let full : 0 < length c.read.new.to = omega (arith, kept, h.room, h.counted, length-take c.min-room.result c.reading.buffer) in
    read_all (g.S.Source.left c.args.source.now) (g.S.Source.left c.reading.source) (g.S.Source.left c.read.new.self) c.reading.file.items c.read.new.to h.bytes end full h.within

pub returns-clause-bytes : goal.returns-clause-bytes
returns-clause-bytes g c =
    let h = c.reading.invariant in
    read_enough (g.S.Source.left c.args.source.now) (g.S.Source.left c.reading.source) c.reading.file.items h.bytes (omega (arith, h.counted, h.within, c.len.ensures))
