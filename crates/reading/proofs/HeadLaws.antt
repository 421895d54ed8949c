-- Laws of a file's head: what is told by its counts. Assumes nothing.
use Prim.Native.Nat.{ℕ}
use mathlib.Core.Path.{◌≡◌, ap, ◌∙◌}
use mathlib.Core.Bool.{Bool}
use mathlib.Core.List.{List}
use Rattle.script.specs.declared.Counts.{Counts}
use Rattle.script.specs.File.{file_length, head_types, head_inputs, head_nodes}
use Rattle.script.specs.Refusals.{counts_right}
use Rattle.script.specs.Replies.{head_counts}

module _ (bs : List ℕ) {n : Counts} (e : n ≡ head_counts bs) where
  pub counts_told : {x : Bool} → x ≡ counts_right n.types n.inputs n.nodes → x ≡ counts_right (head_types bs) (head_inputs bs) (head_nodes bs)
  unfolding head_counts
  counts_told p = p ∙ ap (λ (m : Counts). counts_right m.types m.inputs m.nodes) e

  pub length_told : {o : ℕ} → o ≡ file_length n.types n.inputs n.nodes → o ≡ file_length (head_types bs) (head_inputs bs) (head_nodes bs)
  unfolding head_counts
  length_told p = p ∙ ap (λ (m : Counts). file_length m.types m.inputs m.nodes) e
