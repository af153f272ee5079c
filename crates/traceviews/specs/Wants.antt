-- What is wanted where a line is none, in words.
use Rattle.std.specs.Prelude.{ℕ, List, codes}
use Rattle.traceviews.specs.declared.fault.Wanted.{Wanted}
use Rattle.traceviews.specs.declared.fault.Wanted.TheVariants.{Lane, Entry, Place, Stack, Before, After, Reply}

abbrev pub wanted_text : Wanted → List ℕ
wanted_text Lane = codes "a lane's number"
wanted_text Entry = codes "the name of a step, or an equals sign before a reply,"
wanted_text Place = codes "a place's number"
wanted_text Stack = codes "a stack, as 0.1,"
wanted_text Before = codes "a step's word before"
wanted_text After = codes "a step's word after"
wanted_text Reply = codes "a reply"
