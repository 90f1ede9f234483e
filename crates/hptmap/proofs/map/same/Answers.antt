use Rattle.hptmap.proofs.Canonical.{tells_equal, tells_none, none_tells}
use Rattle.hptmap.proofs.map.same.Goals as goal

pub returns-in-Some-root : goal.returns-in-Some-root
returns-in-Some-root g c = rw (c.in-None.is, c.in-Some-root.is) (none_tells _ (rw c.in-Some-root.is at c.requires.map_second))

pub returns-in-None-root-2 : goal.returns-in-None-root-2
returns-in-None-root-2 g c = rw (c.in-Some.is, c.in-None-root-2.is) (tells_none _ (rw c.in-Some.is at c.requires.map))

pub returns-in-Some-root-2 : goal.returns-in-Some-root-2
returns-in-Some-root-2 g c =
    rw (c.in-Some.is, c.in-Some-root-2.is) (tells_equal _ _ c.same.result (rw c.in-Some.is at c.requires.map) (rw c.in-Some-root-2.is at c.requires.map_second) c.same.ensures)
