-- The sorts of statements, by the words that begin them.
use Rattle.std.specs.Prelude.{ℕ, Bool, true, false}
use Rattle.proc_reader.specs.declared.keyword.Keyword.{Keyword}
use Rattle.proc_reader.specs.declared.keyword.Keyword.TheVariants as k
use Rattle.proc_reader.specs.declared.simple.Class.{Class}
use Rattle.proc_reader.specs.declared.simple.Class.TheVariants as c
use Rattle.proc_reader.specs.Source.{Source, keyword}

abbrev pub class_of : Keyword → Class
class_of k.Move = c.Simple
class_of k.Go = c.Simple
class_of k.Stop = c.Simple
class_of k.Exit = c.Simple
class_of k.Continue = c.Simple
class_of k.Open = c.Simple
class_of k.Close = c.Simple
class_of k.Write = c.Simple
class_of k.Accept = c.Simple
class_of k.Display = c.Simple
class_of k.Add = c.Arithmetic
class_of k.Subtract = c.Arithmetic
class_of k.Multiply = c.Arithmetic
class_of k.Divide = c.Arithmetic
class_of k.Compute = c.Arithmetic
class_of k.If = c.Nested
class_of k.Evaluate = c.Nested
class_of k.Read = c.Nested
class_of k.Perform = c.Perform
class_of _ = c.Inner

abbrev pub is_verb : Class → Bool
is_verb c.Simple = true
is_verb c.Arithmetic = true
is_verb c.Nested = true
is_verb c.Perform = true
is_verb c.Inner = false

-- a statement begins here
unfoldable pub begins : Source → ℕ → Bool
begins t i = is_verb (class_of (keyword t i))
