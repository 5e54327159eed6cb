-- The words and the rates of a descriptor, as the definitions see those that the code holds.
use Rattle.pon_descr.specs.Descriptor.{Descriptor}
use Rattle.pon_line.specs.Fields.{DescriptorWords}
use Rattle.pon_line.specs.declared.fields.DescriptorWords.{DescriptorWords as LentWords}
use Rattle.pon_line.specs.declared.fields.Rates.{Rates}

abbrev pub words_in : LentWords → DescriptorWords
words_in w = record { fixed = w.fixed.now; assured = w.assured.now; most = w.max.now; class = w.class.now }

abbrev pub rates_in : Rates → Descriptor
rates_in r = record { fixed = r.fixed; assured = r.assured; max = r.max; class = r.class }
