use Rattle.std.proofs.Common.{◌≡◌, ◌-◌, sym, arith}
use Rattle.row_rule.specs.Plays.{table, row_at}
use Rattle.row_rule.proofs.Claiming.{takes_dead_at}
use Rattle.row_rule.proofs.claims.take_dead.Goals as goal

pub compare_exchange-requires : goal.compare_exchange-requires
compare_exchange-requires g c = (
  c.requires.fits.0,
  omega (arith, c.row_word.ensures, c.requires.ready.words, c.requires.row, c.requires.fits),
  rw c.requires.ready.slots (takes_dead_at (table c.args.words.now.key.buckets c.args.words.now.key.lines (g.R.Relate.about c.args.words.now.key.about) g.R.Relate.related)
      c.args.seat.now.id c.args.seat.now.me c.requires.ready.mine c.args.row c.row_word.result c.args.old (c.args.old - 1) (omega (arith, c.row_word.ensures, c.requires.fits)) c.requires.row c.requires.dead.0 c.requires.dead.1 (omega (arith, c.requires.dead))),
)

pub returns-clause-hit : goal.returns-clause-hit
returns-clause-hit g c = let w : row_at c.args.seat.now.me.0 c.args.row 0 ≡ c.row_word.result = omega (arith, c.row_word.ensures, c.requires.fits, c.requires.ready.sizes) in
    λ e. rw w ((c.compare_exchange.ensures.2 c.args.row (sym w)).0 e)

pub returns-clause-miss : goal.returns-clause-miss
returns-clause-miss g c = let w : row_at c.args.seat.now.me.0 c.args.row 0 ≡ c.row_word.result = omega (arith, c.row_word.ensures, c.requires.fits, c.requires.ready.sizes) in
    λ ne. rw w ((c.compare_exchange.ensures.2 c.args.row (sym w)).1 ne)
