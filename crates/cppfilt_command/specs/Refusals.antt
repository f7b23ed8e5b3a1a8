-- What the code answers, as the definitions see it.
use Rattle.std.specs.Prelude.{◌≡◌, ⊤, map}
use Rattle.cppfilt_lines.specs.Work.{Work, lines, names, sample}
use Rattle.cppfilt_command.specs.Asked.{Verdict, Mistaken, AsksHelp}
use Rattle.cppfilt_command.specs.declared.refusal.Refusal.{Refusal}
use Rattle.cppfilt_command.specs.declared.refusal.Refusal.TheVariants as refusal
use Rattle.cppfilt_command.specs.declared.request.Task.{Task}
use Rattle.cppfilt_command.specs.declared.request.Task.TheVariants as task

abbrev pub work_of : Task → Work
work_of task.Lines = lines
work_of (task.Names given) = names (map (λ name. name.now) given.items)
work_of (task.Sample n) = sample n

-- why the words ask for no task; want of memory says nothing of them
abbrev pub IsRefusal : Verdict → Refusal → Type 0
IsRefusal v (refusal.Help text) = v ≡ AsksHelp
IsRefusal v (refusal.Usage text) = v ≡ Mistaken
IsRefusal v refusal.OutOfMemory = ⊤
