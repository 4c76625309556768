mod ScanLaws
