-- Addresses are sums of a base and a place.
use Rattle.std.proofs.Common.{refl, arith}
use Rattle.std.proofs.lemmas.Bool.Decides.{nat_tests}
use Rattle.memorymap.specs.Mappings.{AddressesAreSums}

pub sums : AddressesAreSums
sums = record {
  sum = λ base place. refl;
  found = λ base place low small. omega (arith, low, small);
  at_zero = λ place small. (omega (arith, small), omega (arith, small));
  next = λ base place. omega arith;
  apart = λ base other place least. omega (arith, least);
  of_threads = λ l t place. refl;
  valid = λ l place. (λ is. grind (arith, nat_tests), λ both. grind (arith, nat_tests));
  of_places = λ l t at. refl;
}
