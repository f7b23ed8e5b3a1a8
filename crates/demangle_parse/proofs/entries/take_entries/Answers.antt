use Rattle.std.proofs.Common.{sym, rules, false}
use Rattle.demangle_core.proofs.Cuts.{cut_same, cut_cut}
use Rattle.demangle_cells.specs.declared.entry.Entry as made
use Rattle.demangle_table.specs.TableOf.{table_of}
use Rattle.demangle_parse.proofs.Adding.{append_none, entries_next}
use Rattle.demangle_parse.proofs.entries.take_entries.Goals as goal

abbrev no_entry : made.Entry
no_entry = record { numbered = false; id = 0 }

pub loop-component-init : goal.loop-component-init
loop-component-init c = record {
  kept = cut_same (table_of c.args.subs.now);
  added = λ F h. sym (append_none (table_of c.args.subs.now));
}

pub returns-in_err-take_entry-clause-kept : goal.returns-in_err-take_entry-clause-kept
returns-in_err-take_entry-clause-kept c =
    cut_cut (table_of c.args.subs.now) (table_of c.loop-component.subs) (table_of c.take_entry.new.subs)
    c.loop-component.invariant.kept c.take_entry.ensures.kept

pub loop-component-preserved : goal.loop-component-preserved
loop-component-preserved c = record {
  kept = cut_cut (table_of c.args.subs.now) (table_of c.loop-component.subs) (table_of c.take_entry.new.subs)
      c.loop-component.invariant.kept c.take_entry.ensures.kept;
  added = λ F h. entries_next F c.args.components.now c.loop-component.component-index no_entry
      (table_of c.args.subs.now) (table_of c.loop-component.subs) (table_of c.take_entry.new.subs) (search rules)
      (c.loop-component.invariant.added F h) (c.in_ok-take_entry.ensures.added F h);
}
