use Rattle.std.proofs.Common.{◌+◌, refl, arith}
use Rattle.row_rule.specs.Plays.{table}
use Rattle.row_rule.proofs.Scanning.{begins_at}
use Rattle.row_rule.proofs.scans.begin_scan.Goals as goal

pub load-requires : goal.load-requires
load-requires g c = (
  c.requires.fits,
  omega (arith, c.requires.ready.words, c.requires.fits, c.requires.bucket),
  rw c.requires.ready.slots (begins_at (table c.args.words.now.key.buckets c.args.words.now.key.lines (g.R.Relate.about c.args.words.now.key.about) g.R.Relate.related)
      c.args.seat.now.id c.args.seat.now.me c.requires.ready.mine c.args.bucket (1 + c.args.bucket) refl c.requires.bucket),
)

pub returns-clause-view : goal.returns-clause-view
returns-clause-view g c = c.load.ensures.2 c.args.bucket refl
