use Rattle.std.proofs.Common.{refl, arith}
use Rattle.std.proofs.lemmas.Bool.Decides.{nat_tests}
use Rattle.text.proofs.Reading.{read_refused, read_short, read_gives}
use Rattle.text.proofs.Numbers.{refused_number, handed_on}
use Rattle.text.proofs.read.read_text.Goals as goal
use Rattle.text.proofs.read.read_text.Goals.{then-cycles-found-via-then-cycles-found, then-cycles-found-via-else-cycles-found+then-starts-found}

pub returns-in_err-found : goal.returns-in_err-found
returns-in_err-found c =
    rw (handed_on _ _ c.from_residual.ensures.1) (read_refused _ _ _ _ c.in_err-found.ensures (refused_number _))

pub returns-then-cycles-found : goal.returns-then-cycles-found
returns-then-cycles-found c =
    read_short _ _ _ _ c.in_ok-found.ensures refl
    (elim c.then-cycles-found.branch [
      | then-cycles-found-via-then-cycles-found w ↦ grind (arith, nat_tests)
      | then-cycles-found-via-else-cycles-found+then-starts-found w ↦ grind (arith, nat_tests)
    ])

pub returns : goal.returns
returns c = read_gives _ _ _ _ c.in_ok-found.ensures refl (grind (arith, nat_tests)) _ _ c.fill.ensures
