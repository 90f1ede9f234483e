use Rattle.std.proofs.Common.{◌≤◌, ◌+◌, ◌*◌, ◌^◌, take, get_or, refl}
use Rattle.c_lex.specs.Number.{value_of, digit_of}
use Rattle.c_lex.proofs.Values.{too_large, none_is}
use Rattle.c_lex.proofs.number.value_of.Goals as goal

pub returns-in-None : goal.returns-in-None
returns-in-None c =
    let ds = c.args.digits.now in
    let i = c.loop-b.b-index in
    let large = none_is (c.loop-b.value * c.args.base + digit_of (get_or ds i 0)) (2 ^ 64) c.in-None.ensures.value in
    let h : 2 ^ 64 ≤ value_of c.args.base (take i ds) * c.args.base + digit_of (get_or ds i 0) = rw (← c.loop-b.invariant.0) large in
    rw (too_large c.args.base ds i (2 ^ 64) c.requires c.loop-b-test.true h) refl
