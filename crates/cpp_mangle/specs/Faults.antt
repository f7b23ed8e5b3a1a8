-- What the faults say.
use Rattle.std.specs.Prelude.{ℕ, List, codes}
use Rattle.cpp_mangle.specs.declared.fault.MangleFault.{MangleFault}
use Rattle.cpp_mangle.specs.declared.fault.MangleFault.TheVariants.{BadIdent, BadPath, BadType, OutOfMemory}

abbrev pub fault_text : MangleFault → List ℕ
fault_text BadIdent = codes "not an identifier"
fault_text BadPath = codes "not a path of a class or function"
fault_text BadType = codes "not a list of parameters"
fault_text OutOfMemory = codes "out of memory"
