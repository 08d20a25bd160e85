-- The rates of the tariff, and the figures that it has for the premises on each.
--   class_kwh r     the kWh a day of the rate's class of premises, where it has one
--   load_factor r   the load factor of that class in percent, where it has one
--   name_of r       the bytes of the rate's name
use Rattle.std.specs.Prelude.{ℕ, List, Some, None, codes, Option}
use Rattle.measures.specs.declared.rate.Rate.{Rate}
use Rattle.measures.specs.declared.rate.Rate.TheVariants.{E12, Et1, Et2, EtSp, Ect1R, Ect2, NrS, NrL, Other}

abbrev pub class_kwh : Rate → Option ℕ
class_kwh E12 = Some 25
class_kwh Et1 = Some 47
class_kwh Et2 = Some 47
class_kwh EtSp = Some 47
class_kwh Ect1R = Some 75
class_kwh Ect2 = Some 75
class_kwh NrS = Some 45
class_kwh NrL = Some 1156
class_kwh Other = None

abbrev pub load_factor : Rate → Option ℕ
load_factor E12 = None
load_factor Et1 = None
load_factor Et2 = None
load_factor EtSp = None
load_factor Ect1R = Some 42
load_factor Ect2 = Some 39
load_factor NrS = Some 50
load_factor NrL = Some 50
load_factor Other = None

abbrev pub name_of : Rate → List ℕ
name_of E12 = codes "E-12"
name_of Et1 = codes "ET-1"
name_of Et2 = codes "ET-2"
name_of EtSp = codes "ET-SP"
name_of Ect1R = codes "ECT-1R"
name_of Ect2 = codes "ECT-2"
name_of NrS = codes "NR-S"
name_of NrL = codes "NR-L"
name_of Other = codes "OTHER"
