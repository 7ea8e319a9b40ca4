-- Worked figures of the definitions.
use Rattle.std.specs.Prelude.{◌≡◌, true}
use Rattle.tree.specs.Geometry.{table_size}
use Rattle.tree.specs.Numbers.{aligned}
use Rattle.tree.specs.Tree.{sibling_index}
use Rattle.tree.specs.Spans.{span, join_spans, dummy_meaning}
use Rattle.tree.specs.Digests.{sealed_meaning}
use Rattle.tree.specs.declared.span.Span.TheVariants.{Broken}
use Rattle.strip.specs.Calls.{strip_length}

pub record Figures : Type 0 where
  -- tables
  pub table_1_1 : table_size 1 1 ≡ 3
  pub table_4_1 : table_size 4 1 ≡ 20
  pub table_4_2 : table_size 4 2 ≡ 19
  pub table_20_10 : table_size 20 10 ≡ 6139
  -- the siblings of number 5, from the bottom, in a tree of height 3
  pub sibling_0 : sibling_index 5 0 ≡ 4
  pub sibling_1 : sibling_index 5 1 ≡ 3
  pub sibling_2 : sibling_index 5 2 ≡ 0
  -- joins of the dummy maker, of spans that are none of them broken
  pub sound : (aligned 4 0 ≡ true) × (aligned 5 0 ≡ true) × (aligned 6 0 ≡ true) × (aligned 4 1 ≡ true)
  pub neighbours : join_spans (span 4 0) (span 5 0) ≡ span 4 1
  pub strangers : join_spans (span 5 0) (span 6 0) ≡ Broken
  -- strips of height 4
  pub sealed_strip : strip_length sealed_meaning 4 ≡ 169
  pub dummy_strip : strip_length dummy_meaning 4 ≡ 61
