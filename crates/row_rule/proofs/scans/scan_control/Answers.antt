use Rattle.std.proofs.Common.{◌≡◌, sym, arith}
use Rattle.row_rule.specs.Plays.{table, row_at}
use Rattle.row_rule.proofs.Scanning.{scans_control_at}
use Rattle.row_rule.proofs.scans.scan_control.Goals as goal

pub load-requires : goal.load-requires
load-requires g c = (
  c.requires.fits.0,
  omega (arith, c.row_word.ensures, c.requires.ready.words, c.requires.fits, c.requires.row),
  rw c.requires.ready.slots (scans_control_at (table c.args.words.now.key.buckets c.args.words.now.key.lines (g.R.Relate.about c.args.words.now.key.about) g.R.Relate.related)
      c.args.seat.now.id c.args.seat.now.me c.requires.ready.mine _ c.requires.scan c.args.row c.row_word.result (omega (arith, c.row_word.ensures, c.requires.fits)) c.requires.row c.requires.inside),
)

pub returns-clause-taken : goal.returns-clause-taken
returns-clause-taken g c = let w : row_at c.args.seat.now.me.0 c.args.row 0 ≡ c.row_word.result = omega (arith, c.row_word.ensures, c.requires.fits, c.requires.ready.sizes) in
    λ t. rw w ((c.load.ensures.2 c.args.row (sym w)).0 t)

pub returns-clause-other : goal.returns-clause-other
returns-clause-other g c = let w : row_at c.args.seat.now.me.0 c.args.row 0 ≡ c.row_word.result = omega (arith, c.row_word.ensures, c.requires.fits, c.requires.ready.sizes) in
    λ t. rw w ((c.load.ensures.2 c.args.row (sym w)).1 t)
