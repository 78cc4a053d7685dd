-- What a reader's error is to a checker.
use Rattle.wy_cert.specs.declared.error.ReadError.{ReadError}
use Rattle.wy_cert.specs.declared.error.ReadError.TheVariants as read
use Rattle.wy_check.specs.declared.error.CertError.{CertError}
use Rattle.wy_check.specs.declared.error.CertError.TheVariants.{NotRead, NoMemory}

abbrev pub as_refusal : ReadError → CertError
as_refusal read.NotRead = NotRead
as_refusal read.NoMemory = NoMemory
