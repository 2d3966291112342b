pub mod CertificateTexts
pub mod LabelOrder
