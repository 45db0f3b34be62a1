-- A program that has the sections calls them as their rows.
use Rattle.std.proofs.Common.{ℕ, suc, [], sym, subst}
use Rattle.std.specs.Prelude.{Option}
use Rattle.dg_base.specs.declared.Place.{Place}
use Rattle.c_tree.specs.declared.program.Function.{Function}
use Rattle.c_rules.specs.Names.{Name}
use Rattle.run_model.specs.Steps.{Step, ◌>>◌, pure}
use Rattle.run_model.specs.Calls.{Context, Setting}
use Rattle.run_model.specs.Threads.{call_body, context_within, with_function}
use Rattle.cond_runs.specs.Sections.{SeenAlike, HasCells, RunsAs, CalledAs, Holds, CallsSections, HasSections, ProgramsCallRows}
use Rattle.cond_runs.proofs.SectionRuns.{enter_is_row, take_is_row, signal_is_row, broadcast_is_row, init_is_row}
use Rattle.cond_runs.proofs.CallRuns.{calls_are_rows}

called : (depth : ℕ) (g : Setting) (n : Name) (f : Function) (m : Step (Unit {0})) → Holds g n f → RunsAs (context_within depth g) f m → CalledAs (context_within (suc depth) g) n m
called depth g n f m h r = record {
  number = h.number;
  named = h.named;
  alike = λ s. subst (λ (o : Option Function). SeenAlike (with_function o (λ (k : Function). call_body (context_within depth g) k []) s) ((m >> pure 0) s)) (sym h.is) (r s);
}

calls_sections : (depth : ℕ) (g : Setting) (p : Place) (c : Name) (w t : ℕ) → HasCells g.shared c w t → HasSections g p c → CallsSections (context_within (suc depth) g) c w t
calls_sections depth g p c w t cells h =
    let cx : Context = context_within depth g in
    record {
      enters_one = called depth g _ _ _ h.enter_one (enter_is_row cx p c w t cells);
      takes_one = called depth g _ _ _ h.take_one (take_is_row cx p c w t cells h.no_assume);
      signals_one = called depth g _ _ _ h.signal_one (signal_is_row cx p c w t cells);
      broadcasts_all = called depth g _ _ _ h.broadcast_all (broadcast_is_row cx p c w t cells);
      begins_anew = called depth g _ _ _ h.begin_anew (init_is_row cx p c w t cells);
      no_lock = h.no_lock;
      no_unlock = h.no_unlock;
    }

pub programs_call_rows : ProgramsCallRows
programs_call_rows wakeups depth g p at call c m w t cells h s =
    calls_are_rows wakeups (context_within (suc depth) g) at call c m w t (calls_sections depth g p c w t cells h) s
