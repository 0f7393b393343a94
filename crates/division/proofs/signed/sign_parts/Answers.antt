use Rattle.std.proofs.Common.{ap, ◌∙◌, arith, w64, to_z, of_z}
use Rattle.std.proofs.ByRecursion.{All-get_or}
use Rattle.tables.proofs.Writing.{written_more, written_all}
use Rattle.division.specs.Signed.{with_sign, signed_parts}
use Rattle.division.proofs.Signs.{back}
use Rattle.division.proofs.signed.sign_parts.Goals as goal

pub with_sign-requires : goal.with_sign-requires
with_sign-requires c = All-get_or _ c.args.parts.now c.loop-i.i 0 (omega arith) c.requires.small

pub loop-i-preserved : goal.loop-i-preserved
loop-i-preserved c =
    written_more (with_sign (to_z w64 (of_z w64 c.args.whole))) c.args.parts.now c.loop-i.into c.loop-i.i 0 _ (omega arith) (omega arith)
    (back c.with_sign.result (record { sfits = c.with_sign.type_inv }) ∙ c.with_sign.ensures) c.loop-i.invariant

pub returns : goal.returns
returns c =
    written_all (with_sign (to_z w64 (of_z w64 c.args.whole))) c.args.parts.now c.loop-i.into c.loop-i.i (omega arith) (omega arith) c.loop-i.invariant
    ∙ ap (λ z. signed_parts z c.args.parts.now) (back c.args.whole c.ranges.whole)
