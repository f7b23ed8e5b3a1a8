-- The kinds of nodes.
use Rattle.demangle_printing.specs.State.{Kind}
use Rattle.demangle_printing.specs.State as kind
use Rattle.demangle_context.specs.declared.listener.DemangleNodeType.{DemangleNodeType}
use Rattle.demangle_context.specs.declared.listener.DemangleNodeType.TheVariants as node

abbrev pub kind_of : DemangleNodeType → Kind
kind_of node.Prefix = kind.prefix
kind_of node.TemplatePrefix = kind.template_prefix
kind_of node.TemplateArgs = kind.template_args
kind_of node.UnqualifiedName = kind.unqualified_name
kind_of node.TemplateParam = kind.template_param
kind_of node.Decltype = kind.decltype
kind_of node.DataMemberPrefix = kind.data_member_prefix
kind_of node.NestedName = kind.nested_name
kind_of node.VirtualTable = kind.virtual_table
