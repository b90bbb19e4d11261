-- Names as a picture keeps them.
use Rattle.std.specs.Prelude.{map, string_bytes}
use Rattle.picture.specs.Names.{Called}
use Rattle.picture.specs.declared.names.Names.TheInside.{Inside}

abbrev pub contents : Inside → Called
contents n = record {
  threads = map string_bytes n.threads.items;
  mutexes = map string_bytes n.mutexes.items;
  conditions = map string_bytes n.conditions.items;
}
