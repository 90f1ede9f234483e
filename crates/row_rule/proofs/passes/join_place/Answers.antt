use Rattle.std.proofs.Common.{arith}
use Rattle.row_rule.specs.Plays.{table}
use Rattle.row_rule.proofs.Passing.{joins_at}
use Rattle.row_rule.proofs.passes.join_place.Goals as goal

pub join_seat-requires : goal.join_seat-requires
join_seat-requires g c = (
  c.requires.fits.0,
  c.requires.fits.1,
  c.requires.fits.2,
  omega (arith, c.requires.ready.words),
  joins_at (table c.args.words.now.key.buckets c.args.words.now.key.lines (g.R.Relate.about c.args.words.now.key.about) g.R.Relate.related) c.args.seat.now.id c.args.other.id c.args.seat.now.me.0 c.args.other.me.0 c.requires.idle.0 c.requires.idle.1 c.requires.bare c.requires.room,
)
