use Rattle.std.proofs.Common.{◌≡◌, sym, arith}
use Rattle.row_rule.specs.Plays.{table, row_at}
use Rattle.row_rule.proofs.Scanning.{gains_right_at}
use Rattle.row_rule.proofs.scans.add_right.Goals as goal

pub fetch_add-requires : goal.fetch_add-requires
fetch_add-requires g c = (
  c.requires.fits.0,
  omega (arith, c.row_word.ensures, c.requires.ready.words, c.requires.fits, c.requires.row),
  rw c.requires.ready.slots (gains_right_at (table c.args.words.now.key.buckets c.args.words.now.key.lines (g.R.Relate.about c.args.words.now.key.about) g.R.Relate.related)
      c.args.seat.now.id c.args.seat.now.me c.requires.ready.mine c.args.parent c.args.link c.args.row c.row_word.result (omega (arith, c.row_word.ensures, c.requires.fits)) c.requires.held c.requires.seen c.requires.kid c.requires.room),
)

pub returns-clause-view : goal.returns-clause-view
returns-clause-view g c = let w : row_at c.args.seat.now.me.0 c.args.row 0 ≡ c.row_word.result = omega (arith, c.row_word.ensures, c.requires.fits, c.requires.ready.sizes) in
    rw w (c.fetch_add.ensures.2.0 c.args.row c.args.parent c.args.link (sym w) c.requires.seen)
