use Rattle.std.proofs.Common.{◌≡◌, refl, ℕ, arith, Some}
use Rattle.osi_c.specs.Arguments.{serial_of}
use Rattle.osi_c.proofs.arguments.opening.Goals as goal

serial_is : (s n : ℕ) → Some s ≡ serial_of n → s ≡ n
serial_is s n e = grind arith

pub returns-clause-some : goal.returns-clause-some
returns-clause-some c = (
  c.from_bits_retain.ensures tt,
  serial_is _ _ c.in_ok-serial.ensures,
  c.in_ok-wishes.ensures,
  c.in_ok-calling_tsap.ensures.some,
  c.in_ok-called_tsap.ensures.some,
  c.address.ensures,
  c.address-2.ensures,
  c.in_ok-sizes.ensures,
  refl,
)
