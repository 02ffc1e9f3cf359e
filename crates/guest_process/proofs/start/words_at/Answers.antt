use Rattle.std.proofs.Common.{Fits, ℕ, ◌+◌, ◌<◌, ◌≤◌, ◌^◌, ◌++◌, List, length, ap, arith, length-append}
use Rattle.guest_process.specs.Start.{texts_bytes}
use Rattle.guest_process.proofs.Texts.{texts_count, texts_bytes_append}
use Rattle.guest_process.proofs.start.words_at.Goals as goal

-- texts are no more than their bytes
few : (at : ℕ) (arguments environment : List (List ℕ)) → at + length (texts_bytes (arguments ++ environment)) < 2 ^ 32 → length arguments + length environment < 2 ^ 32
few at arguments environment low =
    omega (
      arith,
      low,
      texts_count arguments,
      texts_count environment,
      ap length (texts_bytes_append arguments environment),
      length-append (texts_bytes arguments) (texts_bytes environment),
    )

pub overflow_cast-arguments : goal.overflow_cast-arguments
overflow_cast-arguments c = omega (arith, few c.args.at c.args.arguments.now c.args.environment.now c.requires)
