use Rattle.std.proofs.Common.{◌+◌, ◌/◌, ap, arith}
use lib.ListN.{get_elem?}
use Rattle.row_rule.proofs.Scanning.{holds_tree}
use Rattle.row_rule.specs.Plays.{table}
use Rattle.row_rule.proofs.Scanning.{publishes_at}
use Rattle.row_rule.proofs.scans.publish.Goals as goal

pub compare_exchange-requires : goal.compare_exchange-requires
compare_exchange-requires g c = (
  c.requires.fits,
  omega (arith, c.requires.ready.words, c.requires.fits, c.requires.row),
  rw (c.requires.ready.slots, c.requires.words.0, c.requires.words.1) (publishes_at (table c.args.words.now.key.buckets c.args.words.now.key.lines (g.R.Relate.about c.args.words.now.key.about) g.R.Relate.related)
      c.args.seat.now.id c.args.seat.now.me c.requires.ready.mine _ (1 + c.args.row / 32) (omega (arith, c.requires.row)) 0 (ap (λ l. get_elem? l 0) c.requires.scan) c.requires.inside c.requires.unseen c.requires.young c.requires.claim c.requires.proper _ _ (holds_tree c.args.seat.now.me.0 _ c.requires.first) (holds_tree c.args.seat.now.me.0 _ c.requires.second) c.requires.room (omega (arith, c.requires.row))),
)
