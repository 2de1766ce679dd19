-- The blocks of a function: one begins at each `label`, and ends before the next.
use Rattle.std.specs.Prelude.{ℕ, ◌+◌, List, map, length, option_map, slice_index_or}
use Rattle.reg_state.specs.declared.state.State.{State}
use Rattle.reg_state.specs.States.{Known, store_of}
use Rattle.label_fixpoint.specs.declared.edge.Edge.{Edge}
use Rattle.label_fixpoint.specs.Meaning.{Meaning}
use Rattle.label_fixpoint.specs.Cut.{Cut, block_edges, block_read, blocks_of}
use Rattle.label_fixpoint.specs.Heads.{block_at, head_at, number_at, numbers_by}
use Rattle.func_split.specs.declared.mark.Mark.{Mark}
use Rattle.func_split.specs.Marks.{marks_of}
use Rattle.code_faults.specs.declared.fault.Fault.{Fault}
use Rattle.code_faults.specs.Faults.{faults_at}
use Rattle.flow_rules.specs.declared.fn_flow.FnFlow.{FnFlow}
use Rattle.flow_rules.specs.Body.{Body}
use Rattle.flow_rules.specs.KnownEdges.{goes_at, jumps_at}
use Rattle.flow_rules.specs.Flow.{meaning_of, stated}
use Rattle.flow_rules.specs.FlowBody.{body_of, need_at}
use Rattle.flow_rules.specs.Starts.{begins}
use Rattle.flow_rules.specs.Stating.{state_from}

-- the number of a place where it has one, and else the place
abbrev pub renumbered : List ℕ → ℕ → ℕ
renumbered numbers place = slice_index_or numbers place place

-- the body whose labels stand for these numbers of their places
abbrev pub numbered : List ℕ → Body → Body
numbered numbers b = record {
  plans = b.plans;
  place = λ label. renumbered numbers (b.place label);
  entry = b.entry;
  arity = b.arity;
  bounds = b.bounds;
}

-- ---- the cut

-- of what is known: edges to labels lead to the blocks that begin there
abbrev pub known_cut : Body → List Mark → Cut Known
known_cut b ms = record {
  count = number_at (begins ms) (length b.plans);
  head = head_at (begins ms) (length b.plans);
  block = block_at (begins ms);
  jumps = jumps_at (numbered (numbers_by (begins ms) (length b.plans)) b);
  goes = goes_at b;
}

-- the same of states
abbrev pub cut_of : Body → List Mark → Cut State
cut_of b ms = record {
  count = (known_cut b ms).count;
  head = (known_cut b ms).head;
  block = (known_cut b ms).block;
  jumps = λ place s. map (stated b.bounds.x) ((known_cut b ms).jumps place (store_of s));
  goes = λ place s. option_map (state_from b.bounds.x) ((known_cut b ms).goes place (store_of s));
}

-- the edges that leave a block or go back to where it begins
abbrev pub known_block_edges : Body → List Mark → ℕ → Known → List (Edge Known)
known_block_edges b ms block s = block_edges (known_cut b ms) block s

-- the flow of a function block by block
abbrev pub blocks_meaning : Body → List Mark → Meaning State
blocks_meaning b ms = blocks_of (meaning_of b) (cut_of b ms)

abbrev pub faults_of_block : ℕ → ℕ → Body → List Mark → ℕ → Known → List Fault
faults_of_block number first b ms block s = block_read (known_cut b ms) (λ place known. faults_at number (first + place) (need_at b place known)) block s

-- ---- flows in memory

abbrev pub marks_in : FnFlow → List Mark
marks_in f = marks_of f.function.instrs

abbrev pub blocks_in : FnFlow → Meaning State
blocks_in f = blocks_meaning (body_of f) (marks_in f)

-- of each place of a block that gets a state when the block is followed from this one, the first need that fails, in order
abbrev pub block_faults : FnFlow → ℕ → Known → List Fault
block_faults f block s = faults_of_block f.number f.function.first (body_of f) (marks_in f) block s
