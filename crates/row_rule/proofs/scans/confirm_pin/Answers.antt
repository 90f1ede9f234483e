use Rattle.std.proofs.Common.{◌+◌, ◌/◌, arith}
use Rattle.row_rule.specs.Plays.{table}
use Rattle.row_rule.specs.Changes.{first_row}
use Rattle.row_rule.proofs.Scanning.{confirms_at}
use Rattle.row_rule.proofs.scans.confirm_pin.Goals as goal

pub load-requires : goal.load-requires
load-requires g c = (
  c.requires.fits,
  omega (arith, c.requires.ready.words, c.requires.fits, c.requires.row),
  rw c.requires.ready.slots (confirms_at (table c.args.words.now.key.buckets c.args.words.now.key.lines (g.R.Relate.about c.args.words.now.key.about) g.R.Relate.related)
      c.args.seat.now.id c.args.seat.now.me c.requires.ready.mine (first_row c.args.seat.now.me.0.pins) _ (1 + c.args.row / 32) (omega (arith, c.requires.pin.1)) c.requires.pin.0 c.requires.scan c.requires.inside c.requires.set (omega (arith, c.requires.pin.1, c.requires.row)) c.requires.room),
)

pub returns-clause-view : goal.returns-clause-view
returns-clause-view g c = c.load.ensures.2
