-- What a counter counts.
use Rattle.tree.specs.Meaning.{Meter, reading}
use Rattle.tree.specs.declared.counter.Counter.{Counter}

abbrev pub metered : Counter → Meter
metered c = reading c.leaves c.joins
